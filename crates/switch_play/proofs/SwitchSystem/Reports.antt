-- Lists of records and of lines, one more at a time.
use Rattle.std.proofs.Common.{◌≡◌, ◌+◌, ◌*◌, ◌<◌, ◌++◌, ◌⊎◌, inl, inr, ℕ, zero, suc, Some, List, [], ◌∷◌, length, length-append, slice_get, refl, sym, ap, ap₂, ◌∙◌, subst, arith, codes}
use Rattle.cargo_core.specs.declared.census.Census.{Census}
use Rattle.play_core.proofs.Lists.{some_is}
use Rattle.owner_law.specs.Census as Counts
use Rattle.switched_law.specs.declared.switch_class.member.Member.{Member}
use Rattle.switched_law.proofs.SwitchClass.Lanes.{get_split}
use Rattle.switch_play.specs.SwitchSystem.Lines.{pool_name, line_of, lines_from}
use Rattle.switch_play.specs.SwitchSystem.Reporting.{IsRecord, AreRecords}

pub no_records : (actors : List Member) → AreRecords actors 0 []
no_records actors = record { many = refl; each = λ k frames at. cc }

pub record_more : (actors : List Member) (k : ℕ) (old new : List (List (List ℕ))) (frames : List (List ℕ)) → AreRecords actors k old → IsRecord actors k frames → new ≡ old ++ frames ∷ [] → AreRecords actors (k + 1) new
record_more actors k old new frames are is added = record {
  many = let n : length old ≡ k = are.many in let m : length new ≡ length old + 1 = ap (λ l. length l) added ∙ length-append old (frames ∷ []) in omega (arith, n, m);
  each = λ j fs at. by j fs (get_split old (frames ∷ []) j fs (subst (λ l. slice_get l j ≡ Some fs) added at));
}
  where
    here : (j i : ℕ) (fs : List (List ℕ)) → slice_get (frames ∷ []) i ≡ Some fs → j ≡ length old + i → IsRecord actors j fs
    here j zero fs at e =
        let n : length old ≡ k = are.many in
        let same : k ≡ j = omega (arith, n, e) in
        subst (λ p. IsRecord actors p fs) same (subst (IsRecord actors k) (some_is at) is)
    here j (suc i) fs at e = cc

    by : (j : ℕ) (fs : List (List ℕ)) → (slice_get old j ≡ Some fs) ⊎ ((i : ℕ) × (slice_get (frames ∷ []) i ≡ Some fs) × (j ≡ length old + i)) → IsRecord actors j fs
    by j fs (inl before) = are.each j fs before
    by j fs (inr last) = here j last.0 fs last.1 last.2

-- the lines of one port more
lines_more : (counts : ℕ → Counts.Census) (port n : ℕ) → lines_from counts port (suc n) ≡ lines_from counts port n ++ line_of (pool_name (port + n) (codes "rx")) (counts (2 * (port + n))) ∷ line_of (pool_name (port + n) (codes "tx")) (counts (2 * (port + n) + 1)) ∷ []
lines_more counts port zero = let z : port ≡ port + 0 = omega arith in ap (λ p. line_of (pool_name p (codes "rx")) (counts (2 * p)) ∷ line_of (pool_name p (codes "tx")) (counts (2 * p + 1)) ∷ []) z
lines_more counts port (suc n) =
    let s : port + 1 + n ≡ port + suc n = omega arith in
    ap (λ l. line_of (pool_name port (codes "rx")) (counts (2 * port)) ∷ line_of (pool_name port (codes "tx")) (counts (2 * port + 1)) ∷ l)
    (lines_more counts (port + 1) n ∙ ap (λ p. lines_from counts (port + 1) n ++ line_of (pool_name p (codes "rx")) (counts (2 * p)) ∷ line_of (pool_name p (codes "tx")) (counts (2 * p + 1)) ∷ []) s)

two_pushed : {T : Type 0} (xs : List T) (a b : T) → (xs ++ a ∷ []) ++ b ∷ [] ≡ xs ++ a ∷ b ∷ []
two_pushed [] a b = refl
two_pushed (x ∷ xs) a b = ap (λ l. x ∷ l) (two_pushed xs a b)

pub port_more : (counts : ℕ → Counts.Census) (n : ℕ) (old mid new : List Census) (a b : Census) → old ≡ lines_from counts 0 n → mid ≡ old ++ a ∷ [] → new ≡ mid ++ b ∷ [] → a ≡ line_of (pool_name n (codes "rx")) (counts (2 * n)) → b ≡ line_of (pool_name n (codes "tx")) (counts (2 * n + 1)) → new ≡ lines_from counts 0 (n + 1)
port_more counts n old mid new a b are first second one two =
    let z : 0 + n ≡ n = omega arith in
    let s : suc n ≡ n + 1 = omega arith in
    second ∙ (ap (λ l. l ++ b ∷ []) first ∙ (two_pushed old a b ∙ (ap₂ (λ x y. old ++ x ∷ y ∷ []) one two
    ∙ (ap (λ l. l ++ line_of (pool_name n (codes "rx")) (counts (2 * n)) ∷ line_of (pool_name n (codes "tx")) (counts (2 * n + 1)) ∷ []) are
    ∙ (sym (lines_more counts 0 n ∙ ap (λ p. lines_from counts 0 n ++ line_of (pool_name p (codes "rx")) (counts (2 * p)) ∷ line_of (pool_name p (codes "tx")) (counts (2 * p + 1)) ∷ []) z)
    ∙ ap (lines_from counts 0) s)))))

-- the same counts of each pool give the same lines
pub lines_alike : (a b : ℕ → Counts.Census) (n port : ℕ) → ((pool : ℕ) → pool < 2 * (port + n) → a pool ≡ b pool) → lines_from a port n ≡ lines_from b port n
lines_alike a b zero port same = refl
lines_alike a b (suc n) port same =
    let one = same (2 * port) (omega arith) in
    let two = same (2 * port + 1) (omega arith) in
    let rest = lines_alike a b n (port + 1) (λ pool lt. same pool (omega (arith, lt))) in
    ap₂ (λ x y. line_of (pool_name port (codes "rx")) x ∷ line_of (pool_name port (codes "tx")) y ∷ lines_from a (port + 1) n) one two
    ∙ ap (λ l. line_of (pool_name port (codes "rx")) (b (2 * port)) ∷ line_of (pool_name port (codes "tx")) (b (2 * port + 1)) ∷ l) rest

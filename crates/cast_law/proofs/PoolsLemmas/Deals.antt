-- With which actors the pools of a class are at the start, and of two classes together.
use Rattle.std.proofs.Common.{◌≡◌, ◌≢◌, ◌⊎◌, ◌==◌, ◌+◌, ◌<◌, ◌≤◌, ◌++◌, ℕ, zero, suc, true, false, nat_lt, cond, Some, List, [], ◌∷◌, length, slice_get, refl, sym, ap, ap₂, ◌∙◌, subst, arith, lt-ltb, inl, inr}
use Rattle.std.proofs.Math.Dec.{eqb}
use Rattle.std.proofs.lemmas.Bool.{cases_lt, le-ltb}
use Rattle.std.proofs.lemmas.Bool.Decides.{eqb_tells}
use Rattle.play_core.specs.Sheets.{Scene}
use Rattle.play_core.proofs.Lists.{there_below}
use Rattle.owner_law.proofs.Carrying.{get_first}
use Rattle.owner_law.specs.Pools.Places.{PoolAt, numbers_from, sizes_of, AreNumbered}
use Rattle.owner_law.specs.Pools.Spread.{share_of}
use Rattle.owner_law.proofs.PoolsLemmas.Sizing.{size_there}
use Rattle.owner_law.proofs.PoolsLemmas.Spreading.{its_none}
use Rattle.actor_set.specs.Parts.{Part}
use Rattle.actor_set.specs.Laws.Kinds.{sheet}

-- some of these pools has a number
abbrev pub IsAmong : List PoolAt → ℕ → Type 0
IsAmong ps n = (i : ℕ) × (p : PoolAt) × (slice_get ps i ≡ Some p) × (p.number ≡ n)

-- each of these pools has an owner, and no other number has one; the actors of the class have these
-- pools' buffers at the start, each its share, and no other actor owns any
pub record Deals (scene : Scene) (cast : List Part) (Mine : Part → Type 0) (pools : List PoolAt) (owner : ℕ → ℕ) : Type 0 where
  pub here : (i : ℕ) (p : PoolAt) → slice_get pools i ≡ Some p → owner p.number < length cast
  pub others : (n : ℕ) → IsAmong pools n ⊎ (owner n ≡ length cast)
  pub mine : (k : ℕ) (p : Part) → slice_get cast k ≡ Some p → Mine p → (pool : ℕ) → (sheet scene p).hand pool ≡ share_of (sizes_of pools) owner k pool
  pub aloof : (k : ℕ) (p : Part) → slice_get cast k ≡ Some p → (Mine p → ⊥) → (n : ℕ) → owner n ≡ k → ⊥

-- of no pools
pub no_deals : (scene : Scene) (cast : List Part) (Mine : Part → Type 0) → ((k : ℕ) (p : Part) → slice_get cast k ≡ Some p → Mine p → ⊥) → Deals scene cast Mine [] (λ n. length cast)
no_deals scene cast Mine none = record {
  here = λ i p at. cc;
  others = λ n. inr refl;
  mine = λ k p at is. absurd (none k p at is);
  aloof = λ k p at off n is. let below = there_below cast k p at in omega (arith, below, is);
}

-- a number with buffers is that of a pool
pub size_from : (ps : List PoolAt) (n : ℕ) → (sizes_of ps n ≡ 0) ⊎ IsAmong ps n
size_from [] n = inl refl
size_from (p ∷ ps) n = by (eqb_tells p.number n) (size_from ps n)
  where
    by : ((eqb p.number n ≡ true) × (p.number ≡ n)) ⊎ ((eqb p.number n ≡ false) × (p.number ≢ n)) → (sizes_of ps n ≡ 0) ⊎ IsAmong ps n → (cond (p.number == n) p.buffers (sizes_of ps n) ≡ 0) ⊎ IsAmong (p ∷ ps) n
    by (inl h) rest = inr (0, p, refl, h.1)
    by (inr h) (inl none) = inl (ap (λ t. cond t p.buffers (sizes_of ps n)) h.0 ∙ none)
    by (inr h) (inr x) = inr (suc x.0, x.1, x.2, x.3)

-- lists one behind the other
pub get_behind : {X : Type 0} (xs ys : List X) (i : ℕ) (y : X) → slice_get ys i ≡ Some y → slice_get (xs ++ ys) (length xs + i) ≡ Some y
get_behind [] ys i y at = let plus : i ≡ 0 + i = omega arith in subst (λ n. slice_get ys n ≡ Some y) plus at
get_behind (x ∷ xs) ys i y at =
    let next : suc (length xs + i) ≡ length (x ∷ xs) + i = omega arith in
    subst (λ n. slice_get (x ∷ (xs ++ ys)) n ≡ Some y) next (get_behind xs ys i y at)

pub get_either : {X : Type 0} (xs ys : List X) (i : ℕ) (x : X) → slice_get (xs ++ ys) i ≡ Some x → (slice_get xs i ≡ Some x) ⊎ ((j : ℕ) × (slice_get ys j ≡ Some x))
get_either [] ys i x at = inr (i, at)
get_either (y ∷ xs) ys zero x at = inl at
get_either (y ∷ xs) ys (suc i) x at = get_either xs ys i x at

-- no two pools of either have one number, where none of both have
pub first_numbered_of : (ps qs : List PoolAt) → AreNumbered (ps ++ qs) → AreNumbered ps
first_numbered_of ps qs apart i j p q p_at q_at same = apart i j p q (get_first ps qs i p p_at) (get_first ps qs j q q_at) same

pub then_numbered_of : (ps qs : List PoolAt) → AreNumbered (ps ++ qs) → AreNumbered qs
then_numbered_of ps qs apart i j p q p_at q_at same =
    let both = apart (length ps + i) (length ps + j) p q (get_behind ps qs i p p_at) (get_behind ps qs j q q_at) same in
    omega (arith, both)

module _ (scene : Scene) (cast : List Part) (Mine Too : Part → Type 0) (ps qs : List PoolAt) (one two : ℕ → ℕ) (d : Deals scene cast Mine ps one) (e : Deals scene cast Too qs two) (apart : AreNumbered (ps ++ qs)) (differ : (p : Part) → Mine p → Too p → ⊥) where
  -- the owner of a pool of either class
  abbrev pub joined : ℕ → ℕ
  joined n = cond (nat_lt (one n) (length cast)) (one n) (two n)

  abbrev all : List PoolAt
  all = ps ++ qs

  first_is : (n : ℕ) → one n < length cast → joined n ≡ one n
  first_is n lt = ap (λ t. cond t (one n) (two n)) (lt-ltb (one n) (length cast) lt)

  then_is : (n : ℕ) → length cast ≤ one n → joined n ≡ two n
  then_is n le = ap (λ t. cond t (one n) (two n)) (le-ltb (one n) (length cast) le)

  first_numbered : AreNumbered ps
  first_numbered = first_numbered_of ps qs apart

  then_numbered : AreNumbered qs
  then_numbered = then_numbered_of ps qs apart

  never_both : (n : ℕ) → IsAmong ps n → IsAmong qs n → ⊥
  never_both n x y =
      let same = apart x.0 (length ps + y.0) x.1 y.1 (get_first ps qs x.0 x.1 x.2) (get_behind ps qs y.0 y.1 y.2) (x.3 ∙ sym y.3) in
      let below = there_below ps x.0 x.1 x.2 in
      omega (arith, same, below)

  first_sized : (n : ℕ) → IsAmong ps n → sizes_of ps n ≡ sizes_of all n
  first_sized n x =
      ap (sizes_of ps) (sym x.3)
      ∙ (size_there ps x.0 x.1 first_numbered x.2 ∙ (sym (size_there all x.0 x.1 apart (get_first ps qs x.0 x.1 x.2)) ∙ ap (sizes_of all) x.3))

  then_sized : (n : ℕ) → IsAmong qs n → sizes_of qs n ≡ sizes_of all n
  then_sized n x =
      ap (sizes_of qs) (sym x.3)
      ∙ (size_there qs x.0 x.1 then_numbered x.2 ∙ (sym (size_there all (length ps + x.0) x.1 apart (get_behind ps qs x.0 x.1 x.2)) ∙ ap (sizes_of all) x.3))

  one_below : (n : ℕ) → IsAmong ps n → one n < length cast
  one_below n x = subst (λ k. one k < length cast) x.3 (d.here x.0 x.1 x.2)

  two_below : (n : ℕ) → IsAmong qs n → two n < length cast
  two_below n x = subst (λ k. two k < length cast) x.3 (e.here x.0 x.1 x.2)

  same_share : (k pool n m : ℕ) (a b : ℕ) → a ≡ b → n ≡ m → cond (a == k) (numbers_from 0 n) [] ≡ cond (b == k) (numbers_from 0 m) []
  same_share k pool n m a b owner size = ap₂ (λ x y. cond (x == k) (numbers_from 0 y) []) owner size

  pub first_share : (k : ℕ) (p : Part) → slice_get cast k ≡ Some p → Mine p → (pool : ℕ) → (sheet scene p).hand pool ≡ share_of (sizes_of all) joined k pool
  first_share k p at is pool = d.mine k p at is pool ∙ by (d.others pool)
    where
      by : IsAmong ps pool ⊎ (one pool ≡ length cast) → share_of (sizes_of ps) one k pool ≡ share_of (sizes_of all) joined k pool
      by (inl x) = same_share k pool (sizes_of ps pool) (sizes_of all pool) (one pool) (joined pool) (sym (first_is pool (one_below pool x))) (first_sized pool x)
      by (inr none) =
          let below = there_below cast k p at in
          sym (its_none (sizes_of ps) one k pool (λ h. omega (arith, h, none, below)))
          ∙ its_none (sizes_of all) joined k pool (λ h. e.aloof k p at (λ too. differ p is too) pool (sym (then_is pool (omega (arith, none))) ∙ h))

  pub then_share : (k : ℕ) (p : Part) → slice_get cast k ≡ Some p → Too p → (pool : ℕ) → (sheet scene p).hand pool ≡ share_of (sizes_of all) joined k pool
  then_share k p at is pool = e.mine k p at is pool ∙ by (d.others pool) (e.others pool)
    where
      not_one : one pool ≡ k → ⊥
      not_one h = d.aloof k p at (λ mine. differ p mine is) pool h

      by : IsAmong ps pool ⊎ (one pool ≡ length cast) → IsAmong qs pool ⊎ (two pool ≡ length cast) → share_of (sizes_of qs) two k pool ≡ share_of (sizes_of all) joined k pool
      by (inl x) (inl y) = absurd (never_both pool x y)
      by (inr none) (inl y) = same_share k pool (sizes_of qs pool) (sizes_of all pool) (two pool) (joined pool) (sym (then_is pool (omega (arith, none)))) (then_sized pool y)
      by (inl x) (inr no_two) =
          let below = there_below cast k p at in
          sym (its_none (sizes_of qs) two k pool (λ h. omega (arith, h, no_two, below)))
          ∙ its_none (sizes_of all) joined k pool (λ h. not_one (sym (first_is pool (one_below pool x)) ∙ h))
      by (inr none) (inr no_two) =
          let below = there_below cast k p at in
          sym (its_none (sizes_of qs) two k pool (λ h. omega (arith, h, no_two, below)))
          ∙ its_none (sizes_of all) joined k pool (λ h. omega (arith, sym (then_is pool (omega (arith, none))) ∙ h, no_two, below))

  -- an actor of neither has none
  pub no_share : (k : ℕ) (p : Part) → slice_get cast k ≡ Some p → (Mine p → ⊥) → (Too p → ⊥) → (pool : ℕ) → [] ≡ share_of (sizes_of all) joined k pool
  no_share k p at off aloof pool = its_none (sizes_of all) joined k pool (λ h. by (cases_lt (one pool) (length cast)) h)
    where
      by : (one pool < length cast) ⊎ (length cast ≤ one pool) → joined pool ≡ k → ⊥
      by (inl lt) h = d.aloof k p at off pool (sym (first_is pool lt) ∙ h)
      by (inr le) h = e.aloof k p at aloof pool (sym (then_is pool le) ∙ h)

  -- each pool's owner is one of the actors
  pub all_owned : (n : ℕ) → (joined n < length cast) ⊎ (sizes_of all n ≡ 0)
  all_owned n = by (size_from all n)
    where
      either : (i : ℕ) (p : PoolAt) → (slice_get ps i ≡ Some p) ⊎ ((j : ℕ) × (slice_get qs j ≡ Some p)) → p.number ≡ n → joined n < length cast
      either i p (inl at) is = let lt = one_below n (i, p, at, is) in omega (arith, lt, first_is n lt)
      either i p (inr x) is = side (cases_lt (one n) (length cast))
        where
          side : (one n < length cast) ⊎ (length cast ≤ one n) → joined n < length cast
          side (inl lt) = omega (arith, lt, first_is n lt)
          side (inr le) = let lt = two_below n (x.0, p, x.1, is) in omega (arith, lt, then_is n le)

      by : (sizes_of all n ≡ 0) ⊎ IsAmong all n → (joined n < length cast) ⊎ (sizes_of all n ≡ 0)
      by (inl none) = inr none
      by (inr x) = inl (either x.0 x.1 (get_either ps qs x.0 x.1 x.2) x.3)

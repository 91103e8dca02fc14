-- Lists that grow by what is pushed.
use Rattle.std.proofs.Common.{◌≡◌, ◌+◌, ◌<◌, ◌≤◌, ◌++◌, ◌⊎◌, inl, inr, ℕ, zero, suc, Some, List, [], ◌∷◌, length, length-append, take, slice_get, refl, sym, ap, ◌∙◌, subst, arith}
use Rattle.std.proofs.lemmas.Bool.{cases_lt}
use Rattle.std.proofs.Math.ListN.{length-replicate}
use Rattle.cargo_core.specs.Pages.{Paged}
use Rattle.frame_core.specs.declared.mac.Mac.{Mac}
use Rattle.play_core.proofs.Lists.{some_is}
use Rattle.buffer_kit.proofs.TwoLists.{get_front, get_behind}
use Rattle.line_text.specs.Lists.{per_client}
use Rattle.line_text.proofs.Rows.{per_client_more, length_per_client}
use Rattle.net_switch.specs.declared.switch.PortEnds.{PortEnds}
use Rattle.switched_law.specs.SwitchClass.Starting.{new_page, IsWhole, ends_of, AreEnds}
use Rattle.switched_law.proofs.SwitchClass.Lanes.{value_is}

-- one value more
pub one_more : {T : Type 0} (n : ℕ) (value : ℕ → T) (xs ys : List T) (x : T) → xs ≡ per_client n value → ys ≡ xs ++ x ∷ [] → x ≡ value n → ys ≡ per_client (n + 1) value
one_more n value xs ys x old is same = is ∙ (ap (λ l. l ++ x ∷ []) old ∙ (ap (λ y. per_client n value ++ y ∷ []) same ∙ sym (per_client_more n value)))

-- one element more of the first
take_suc : {T : Type 0} (xs : List T) (k : ℕ) (x : T) → slice_get xs k ≡ Some x → take (suc k) xs ≡ take k xs ++ x ∷ []
take_suc [] k x at = absurd cc
take_suc (y ∷ xs) zero x at = ap (λ z. z ∷ []) (some_is at)
take_suc (y ∷ xs) (suc k) x at = ap (λ l. y ∷ l) (take_suc xs k x at)

pub take_more : {T : Type 0} (xs : List T) (k : ℕ) (x : T) → slice_get xs k ≡ Some x → take (k + 1) xs ≡ take k xs ++ x ∷ []
take_more xs k x at = let e : k + 1 ≡ suc k = omega arith in ap (λ n. take n xs) e ∙ take_suc xs k x at

-- the buffers of a pool
pub whole_pool : (pool : ℕ) (pages : List Paged) → pages ≡ per_client 4 (new_page pool) → IsWhole pool pages
whole_pool pool pages are =
    let is : (k : ℕ) (p : Paged) → slice_get pages k ≡ Some p → p ≡ new_page pool k = λ k p at. (value_is 4 (new_page pool) k p (ap (λ l. slice_get l k) (sym are) ∙ at)).1 in
    let long : length pages ≡ 4 = ap (λ l. length l) are ∙ length_per_client 4 (new_page pool) in
    record {
      are_pool = record {
        same_pool = λ k p at. ap (λ (q : Paged). q.pool) (is k p at);
        numbered = λ k p at. ap (λ (q : Paged). q.no) (is k p at);
        sized = λ k p at. ap (λ (q : Paged). length q.bytes) (is k p at) ∙ length-replicate {A = ℕ} 2048 0;
        some = omega arith;
        few = omega (arith, long);
        ends = omega (arith, long);
      };
      many = long;
    }

pub no_ends : (macs : List Mac) → AreEnds macs 0 []
no_ends macs = record { many = refl; each = λ k mac lt at. absurd (omega (arith, lt)) }

-- one port more
pub ends_more : (macs : List Mac) (ports : ℕ) (old new : List PortEnds) (mac : Mac) (e : PortEnds) → AreEnds macs ports old → slice_get macs ports ≡ Some mac → e ≡ ends_of ports mac → new ≡ old ++ e ∷ [] → AreEnds macs (ports + 1) new
ends_more macs ports old new mac e are here is added = record {
  many = let n : length old ≡ ports = are.many in let m : length new ≡ length old + 1 = ap (λ l. length l) added ∙ length-append old (e ∷ []) in omega (arith, n, m);
  each = λ k a lt at. by k a lt at (cases_lt k ports);
}
  where
    by : (k : ℕ) (a : Mac) → k < ports + 1 → slice_get macs k ≡ Some a → (k < ports) ⊎ (ports ≤ k) → slice_get new k ≡ Some (ends_of k a)
    by k a lt at (inl less) = subst (λ l. slice_get l k ≡ Some (ends_of k a)) (sym added) (get_front old (e ∷ []) k (ends_of k a) (are.each k a less at))
    by k a lt at (inr past) =
        let same : ports ≡ k = omega (arith, lt, past) in
        let n : length old ≡ ports = are.many in
        let place : length old + 0 ≡ k = omega (arith, n, same) in
        let addr : mac ≡ a = some_is (sym here ∙ (ap (slice_get macs) same ∙ at)) in
        let what : e ≡ ends_of k a = is ∙ (ap (λ p. ends_of p mac) same ∙ ap (ends_of k) addr) in
        subst (λ l. slice_get l k ≡ Some (ends_of k a)) (sym added) (subst (λ j. slice_get (old ++ e ∷ []) j ≡ Some (ends_of k a)) place (get_behind old (e ∷ []) 0 ∙ ap (λ x. Some x) what))

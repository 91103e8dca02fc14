use Rattle.std.proofs.Common.{◌≡◌, ◌+◌, ℕ, zero, suc, Some, List, [], ◌∷◌, ◌++◌, slice_get, sum_by, refl, sym, ap, ◌∙◌, arith}
use Rattle.std.proofs.lemmas.List.Sums.{sum_by-cons, sum_by-append}
use Rattle.cargo_core.specs.declared.item.Item.{Item}
use Rattle.wire_core.specs.Deeds.{Cargo}
use Rattle.wire_core.specs.Lists.{Passed}
use Rattle.wire_core.specs.Queues.{items_of}
use Rattle.play_core.specs.Moved.{Moved}
use Rattle.owner_law.specs.Things.{Buffer, Names, Naming, thing_at, things_from, requests_of, things_sent, things_taken, as_buffer}
use Rattle.owner_law.specs.Owners.{Table}
use Rattle.owner_law.specs.Keeping.{Keeper, stands_in, IsShownBy}
use Rattle.owner_law.specs.Pages.{as_page, CarryPages}

-- as many pages as buffers are named
pub pages_named : (b : Buffer) (names : Names) (rs : List Item) (k : ℕ) (cs : List Cargo) → ((i : ℕ) (c : Cargo) → slice_get cs i ≡ Some c → as_page b c.1 ≡ as_buffer b (thing_at names rs (k + i) c.0)) → sum_by (λ c. as_page b c.1) cs ≡ sum_by (as_buffer b) (things_from names rs k (items_of cs))
pages_named b names rs k [] each = refl
pages_named b names rs k (c ∷ cs) each =
    let here : as_page b c.1 ≡ as_buffer b (thing_at names rs k c.0) = each 0 c refl ∙ ap (λ n. as_buffer b (thing_at names rs n c.0)) plus in
    omega (arith, sum_by-cons (λ d. as_page b d.1) c cs, sum_by-cons (as_buffer b) (thing_at names rs k c.0) (things_from names rs (k + 1) (items_of cs)), here, pages_named b names rs (k + 1) cs (λ i d at. each (suc i) d at ∙ ap (λ n. as_buffer b (thing_at names rs n d.0)) (shift i)))
  where
    plus : k + 0 ≡ k
    plus = omega arith

    shift : (i : ℕ) → k + suc i ≡ k + 1 + i
    shift i = omega arith

pub get_first : {T : Type 0} (xs ys : List T) (k : ℕ) (x : T) → slice_get xs k ≡ Some x → slice_get (xs ++ ys) k ≡ Some x
get_first [] ys k x at = cc
get_first (y ∷ xs) ys zero x at = at
get_first (y ∷ xs) ys (suc k) x at = get_first xs ys k x at

pub pages_stand : (naming : Naming) (lender : ℕ) (keepers : List Keeper) (m : Moved) (t : Table) (passed : Passed) → IsShownBy naming lender keepers m t → CarryPages naming m passed → (n : ℕ) (entries : List Cargo) → passed.sent n ≡ passed.taken n ++ entries → (b : Buffer) → sum_by (λ c. as_page b c.1) entries ≡ stands_in n (t.place b)
pages_stand naming lender keepers m t passed shown carry n entries parts b =
    let rs = requests_of (naming n) m in
    let all : sum_by (λ c. as_page b c.1) (passed.sent n) ≡ sum_by (as_buffer b) (things_sent naming m n) =
    pages_named b (naming n) rs 0 (passed.sent n) (λ i c at. carry.bodies n i c at b ∙ ap (λ k. as_buffer b (thing_at (naming n) rs k c.0)) (zero_plus i)) ∙ ap (λ is. sum_by (as_buffer b) (things_from (naming n) rs 0 is)) (sym (carry.sent n)) in
    let first : sum_by (λ c. as_page b c.1) (passed.taken n) ≡ sum_by (as_buffer b) (things_taken naming m n) =
    pages_named b (naming n) rs 0 (passed.taken n) (λ i c at. carry.bodies n i c (ap (λ cs. slice_get cs i) parts ∙ get_first (passed.taken n) entries i c at) b ∙ ap (λ k. as_buffer b (thing_at (naming n) rs k c.0)) (zero_plus i)) ∙ ap (λ is. sum_by (as_buffer b) (things_from (naming n) rs 0 is)) (sym (carry.taken n)) in
    omega (arith, all, first, ap (sum_by (λ c. as_page b c.1)) parts, sum_by-append (λ c. as_page b c.1) (passed.taken n) entries, shown.queued n b)
  where
    zero_plus : (i : ℕ) → i ≡ 0 + i
    zero_plus i = omega arith

-- What the responses of a queue carry: the buffers of as many requests.
use Rattle.std.proofs.Common.{◌≡◌, ◌⊎◌, ◌+◌, ◌≤◌, ◌++◌, ℕ, zero, suc, Option, Some, None, inl, inr, List, [], ◌∷◌, length, take, drop, slice_get, sum_by, option_and_then, refl, sym, ap, ◌∙◌, subst, arith}
use Rattle.std.proofs.lemmas.List.{take-append-drop, take-append-le}
use Rattle.std.proofs.lemmas.List.Sums.{sum_by-cons}
use Rattle.cargo_core.specs.Lists.{IsPrefix}
use Rattle.cargo_core.specs.declared.item.Item.{Item}
use Rattle.wire_core.specs.Bells.{bit}
use Rattle.play_core.specs.Moved.{Moved}
use Rattle.owner_law.specs.Things.{Buffer, is_same, Window, Names, Answers as AnswersTo, Naming, Thing, Nothing, Whole, thing_of, requested, things_from, requests_of, buffer_of, names_in, is_named, times}
use Rattle.owner_law.proofs.Named.{carried, times_few}

-- the first so many of a list are a beginning of it, and of a longer one
pub take_begins : {T : Type 0} (k : ℕ) (xs : List T) → IsPrefix (take k xs) xs
take_begins k xs = (drop k xs, take-append-drop k xs)

pub take_of : {T : Type 0} (k : ℕ) (xs ys : List T) → IsPrefix xs ys → k ≤ length xs → take k ys ≡ take k xs
take_of k xs ys h le = ap (take k) (sym h.1) ∙ take-append-le k xs h.0 le

pub take_more : {T : Type 0} (i j : ℕ) (xs : List T) → i ≤ j → IsPrefix (take i xs) (take j xs)
take_more zero j xs le = (take j xs, refl)
take_more (suc i) zero xs le = absurd (omega (arith, le))
take_more (suc i) (suc j) [] le = ([], refl)
take_more (suc i) (suc j) (x ∷ xs) le = let h = take_more i j xs (omega (arith, le)) in (h.0, ap (λ l. x ∷ l) h.1)

-- a beginning names each buffer no more often
names_begin : (ws : List Window) (xs ys : List Item) → IsPrefix xs ys → IsPrefix (names_in ws xs) (names_in ws ys)
names_begin ws [] ys h = (names_in ws ys, refl)
names_begin ws (x ∷ xs) [] h = absurd (let e = h.1 in cc)
names_begin ws (x ∷ xs) (y ∷ ys) h =
    let head : x ≡ y = cc in
    let tail : xs ++ h.0 ≡ ys = cc in
    let rest = names_begin ws xs ys (h.0, tail) in
    (rest.0, ap (λ l. buffer_of ws x ∷ l) rest.1 ∙ ap (λ z. buffer_of ws z ∷ names_in ws ys) head)

pub fewer : (b : Buffer) (ws : List Window) (xs ys : List Item) → IsPrefix xs ys → times b (names_in ws xs) ≤ times b (names_in ws ys)
fewer b ws xs ys h = times_few b (names_in ws xs) (names_in ws ys) (names_begin ws xs ys h)

-- a list from a place on: it ends there, or begins with what stands there
from_place : {T : Type 0} (k : ℕ) (xs : List T) → ((slice_get xs k ≡ None) × (drop k xs ≡ [])) ⊎ ((x : T) × (slice_get xs k ≡ Some x) × (drop k xs ≡ x ∷ drop (suc k) xs))
from_place zero [] = inl (refl, refl)
from_place zero (x ∷ xs) = inr (x, refl, refl)
from_place (suc k) [] = inl (refl, refl)
from_place (suc k) (x ∷ xs) = from_place k xs

made_is : (f : Thing → ℕ) (b : Buffer) → f Nothing ≡ 0 → ((c : Buffer) → f (Whole c) ≡ bit (is_same c b)) → (o : Option Buffer) → f (thing_of Whole o) ≡ is_named b o
made_is f b none is None = none
made_is f b none is (Some c) = is c

made_zero : (f : Thing → ℕ) → f Nothing ≡ 0 → ((c : Buffer) → f (Whole c) ≡ 0) → (o : Option Buffer) → f (thing_of Whole o) ≡ 0
made_zero f none is None = none
made_zero f none is (Some c) = is c

abbrev no_items : List Item
no_items = []

take_none : (n : ℕ) → take n no_items ≡ no_items
take_none zero = refl
take_none (suc n) = refl

past : (k : ℕ) (rs : List Item) → drop k rs ≡ [] → drop (suc k) rs ≡ []
past zero [] h = refl
past zero (r ∷ rs) h = absurd cc
past (suc k) [] h = refl
past (suc k) (r ∷ rs) h = past k rs h

answered_from : (f : Thing → ℕ) (b : Buffer) (q : ℕ) (ws : List Window) → f Nothing ≡ 0 → ((c : Buffer) → f (Whole c) ≡ bit (is_same c b)) → (rs : List Item) (k : ℕ) (items : List Item)
    → sum_by f (things_from (AnswersTo q ws) rs k items) ≡ times b (names_in ws (take (length items) (drop k rs)))
answered_from f b q ws none is rs k [] = refl
answered_from f b q ws none is rs k (i ∷ items) =
    let head = made_is f b none is (requested ws rs k) in
    let next : k + 1 ≡ suc k = omega arith in
    let tail = answered_from f b q ws none is rs (k + 1) items ∙ ap (λ n. times b (names_in ws (take (length items) (drop n rs)))) next in
    let sum = sum_by-cons f (thing_of Whole (requested ws rs k)) (things_from (AnswersTo q ws) rs (k + 1) items) in
    elim (from_place k rs) [
      | inl ends ↦
          let name : is_named b (requested ws rs k) ≡ 0 = ap (λ (o : Option Item). is_named b (option_and_then (buffer_of ws) o)) ends.0 in
          let later : times b (names_in ws (take (length items) (drop (suc k) rs))) ≡ 0 = ap (λ l. times b (names_in ws (take (length items) l))) (past k rs ends.1) ∙ ap (λ l. times b (names_in ws l)) (take_none (length items)) in
          let all : times b (names_in ws (take (suc (length items)) (drop k rs))) ≡ 0 = ap (λ l. times b (names_in ws (take (suc (length items)) l))) ends.1 in
          omega (arith, sum, head, tail, name, later, all)
      | inr goes ↦
          let name : is_named b (requested ws rs k) ≡ is_named b (buffer_of ws goes.0) = ap (λ (o : Option Item). is_named b (option_and_then (buffer_of ws) o)) goes.1 in
          let all : times b (names_in ws (take (suc (length items)) (drop k rs))) ≡ times b (buffer_of ws goes.0 ∷ names_in ws (take (length items) (drop (suc k) rs))) = ap (λ l. times b (names_in ws (take (suc (length items)) l))) goes.2 in
          let parts = sum_by-cons (is_named b) (buffer_of ws goes.0) (names_in ws (take (length items) (drop (suc k) rs))) in
          omega (arith, sum, head, tail, name, all, parts)
    ]

answered_none : (f : Thing → ℕ) (q : ℕ) (ws : List Window) → f Nothing ≡ 0 → ((c : Buffer) → f (Whole c) ≡ 0) → (rs : List Item) (k : ℕ) (items : List Item) → sum_by f (things_from (AnswersTo q ws) rs k items) ≡ 0
answered_none f q ws none is rs k [] = refl
answered_none f q ws none is rs k (i ∷ items) = omega (arith, sum_by-cons f (thing_of Whole (requested ws rs k)) (things_from (AnswersTo q ws) rs (k + 1) items), made_zero f none is (requested ws rs k), answered_none f q ws none is rs (k + 1) items)

-- the sum over what the items of a queue of responses carry
module _ (naming : Naming) (m : Moved) (n q : ℕ) (ws : List Window) (names : naming n ≡ AnswersTo q ws) (items : List Item) where
  pub answers_are : (f : Thing → ℕ) (b : Buffer) → f Nothing ≡ 0 → ((c : Buffer) → f (Whole c) ≡ bit (is_same c b)) → carried naming m n items f ≡ times b (names_in ws (take (length items) (m.sent q)))
  answers_are f b none is = subst (λ (x : Names). sum_by f (things_from x (requests_of x m) 0 items) ≡ times b (names_in ws (take (length items) (m.sent q)))) (sym names) (answered_from f b q ws none is (m.sent q) 0 items)

  pub answers_none : (f : Thing → ℕ) → f Nothing ≡ 0 → ((c : Buffer) → f (Whole c) ≡ 0) → carried naming m n items f ≡ 0
  answers_none f none is = subst (λ (x : Names). sum_by f (things_from x (requests_of x m) 0 items) ≡ 0) (sym names) (answered_none f q ws none is (m.sent q) 0 items)

use Rattle.std.proofs.Common.{◌≡◌, ℕ, zero, suc, ◌+◌, ◌≤◌, cond, eqb, inl, inr, List, [], ◌∷◌, ◌++◌, length, sum_by, zero-add, refl, ap, ◌∙◌, arith}
use Rattle.std.specs.List.{flat_map}
use Rattle.std.proofs.lemmas.Bool.{cases_Bool, eqb-true, eqb-false}
use Rattle.std.proofs.lemmas.List.{length-append}
use Rattle.std.proofs.lemmas.List.Concat.{flat_map-cons}
use Rattle.std.proofs.lemmas.List.Sums.{sum_by-cons, sum_by-append}
use Rattle.line_text.specs.Lists.{per_client}
use Rattle.line_text.proofs.Rows.{per_client_same}

-- a sum over one more element
pub sum_more : {E : Type 0} (f : E → ℕ) (xs : List E) (e : E) → sum_by f (xs ++ e ∷ []) ≡ sum_by f xs + f e
sum_more f xs e = sum_by-append f xs (e ∷ []) ∙ ap (λ n. sum_by f xs + n) (zero-add (f e))

-- lists of clients that are all empty
pub none_total : {T : Type 0} (n : ℕ) (f : ℕ → List T) → ((k : ℕ) → f k ≡ []) → sum_by length (per_client n f) ≡ 0
none_total zero f h = refl
none_total (suc n) f h = sum_by-cons length (f 0) (per_client n (λ k. f (suc k))) ∙ rw (h 0, none_total n (λ k. f (suc k)) (λ k. h (suc k))) refl

-- lists of clients of which one has something
one_has : {T : Type 0} (n c : ℕ) (more : List T) (f : ℕ → List T) → ((k : ℕ) → c ≡ k → f k ≡ more) → ((k : ℕ) → (c ≡ k → ⊥) → f k ≡ [])
    → sum_by length (per_client n f) ≤ length more
one_has zero c more f here other = omega arith
one_has (suc n) zero more f here other =
    rw (sum_by-cons length (f 0) (per_client n (λ k. f (suc k))), here 0 refl, none_total n (λ k. f (suc k)) (λ k. other (suc k) (λ is. absurd (omega arith)))) (omega arith)
one_has (suc n) (suc c) more f here other =
    let rest = one_has n c more (λ k. f (suc k)) (λ k is. here (suc k) (ap suc is)) (λ k not. other (suc k) (λ is. not (omega arith))) in
    rw (sum_by-cons length (f 0) (per_client n (λ k. f (suc k))), other 0 (λ is. absurd (omega arith))) (omega arith)

choice_here : {T : Type 0} (c k : ℕ) (more : List T) → c ≡ k → cond (eqb c k) more [] ≡ more
choice_here c k more is = elim (cases_Bool (eqb c k)) [
  | inl same ↦ rw same refl
  | inr other ↦ absurd (eqb-false c k other is)
]

choice_other : {T : Type 0} (c k : ℕ) (more : List T) → (c ≡ k → ⊥) → cond (eqb c k) more [] ≡ []
choice_other c k more isnt = elim (cases_Bool (eqb c k)) [
  | inl same ↦ absurd (isnt (eqb-true c k same))
  | inr other ↦ rw other refl
]

pub one_total : {T : Type 0} (n c : ℕ) (more : List T) (f : ℕ → List T) → ((k : ℕ) → f k ≡ cond (eqb c k) more []) → sum_by length (per_client n f) ≤ length more
one_total n c more f h = one_has n c more f (λ k is. h k ∙ choice_here c k more is) (λ k isnt. h k ∙ choice_other c k more isnt)

-- what the lists of clients have together, where each is one list behind another
both_total : {T : Type 0} (n : ℕ) (f g : ℕ → List T) → sum_by length (per_client n (λ k. f k ++ g k)) ≡ sum_by length (per_client n f) + sum_by length (per_client n g)
both_total zero f g = refl
both_total (suc n) f g =
    let more = both_total n (λ k. f (suc k)) (λ k. g (suc k)) in
    rw (sum_by-cons length (f 0 ++ g 0) (per_client n (λ k. f (suc k) ++ g (suc k))), sum_by-cons length (f 0) (per_client n (λ k. f (suc k))), sum_by-cons length (g 0) (per_client n (λ k. g (suc k))), length-append (f 0) (g 0), more)
    (omega arith)

-- what elements give to the lists of clients is no more than what they count, where this is so of each
pub total : {E T : Type 0} (n : ℕ) (f : ℕ → E → List T) (count : E → ℕ) (xs : List E)
    → ((e : E) → sum_by length (per_client n (λ k. f k e)) ≤ count e)
    → sum_by length (per_client n (λ k. flat_map (f k) xs)) ≤ sum_by count xs
total n f count [] h = rw (none_total n (λ k. flat_map (f k) []) (λ k. refl)) (omega arith)
total n f count (e ∷ xs) h =
    let here = h e in
    let rest = total n f count xs h in
    rw (
      sum_by-cons count e xs,
      ap (sum_by length) (per_client_same n (λ k. flat_map (f k) (e ∷ xs)) (λ k. f k e ++ flat_map (f k) xs) (λ k. flat_map-cons (f k) e xs)),
      both_total n (λ k. f k e) (λ k. flat_map (f k) xs),
    )
    (omega arith)

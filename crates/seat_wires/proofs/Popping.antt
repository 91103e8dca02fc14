-- What stands at the places of a list whose last place is taken away.
use Rattle.std.proofs.Common.{◌≡◌, ◌≢◌, ◌∙◌, ℕ, zero, suc, ◌+◌, ◌<◌, ◌≤◌, List, [], ◌∷◌, ◌++◌, length, length-append, refl, sym, ap, arith, Option, None}
use Rattle.seat_wires.specs.Places.{stands_at}

module _ {X : Type 0} where
  pub past : (xs : List (Option X)) (n : ℕ) → length xs ≤ n → stands_at xs n ≡ None
  past [] n h = refl
  past (x ∷ xs) zero h = absurd (omega arith)
  past (x ∷ xs) (suc n) h = past xs n (omega arith)

  popped_here : (xs : List (Option X)) (y : Option X) → stands_at (xs ++ y ∷ []) (length xs) ≡ y
  popped_here [] y = refl
  popped_here (x ∷ xs) y = popped_here xs y

  popped_beside : (xs : List (Option X)) (y : Option X) (n : ℕ) → n ≢ length xs → stands_at (xs ++ y ∷ []) n ≡ stands_at xs n
  popped_beside [] y zero h = absurd (h refl)
  popped_beside [] y (suc n) h = refl
  popped_beside (x ∷ xs) y zero h = refl
  popped_beside (x ∷ xs) y (suc n) h = popped_beside xs y n (λ e. h (ap suc e))

  popped_none : (xs : List (Option X)) (n : ℕ) → stands_at (xs ++ None ∷ []) n ≡ stands_at xs n
  popped_none [] zero = refl
  popped_none [] (suc n) = refl
  popped_none (x ∷ xs) zero = refl
  popped_none (x ∷ xs) (suc n) = popped_none xs n

  -- the list before, of which the last place was taken, where the first list has the same ends
  module _ (first old new : List (Option X)) (y : Option X) (same : (n : ℕ) → stands_at old n ≡ stands_at first n) (items : old ≡ new ++ y ∷ []) where
    at : (n : ℕ) → stands_at first n ≡ stands_at (new ++ y ∷ []) n
    at n = sym (same n) ∙ ap (λ (z : List (Option X)). stands_at z n) items

    pub stood_last : stands_at first (length new) ≡ y
    stood_last = at (length new) ∙ popped_here new y

    pub others_stay : (n : ℕ) → n ≢ length new → stands_at new n ≡ stands_at first n
    others_stay n h = sym (at n ∙ popped_beside new y n h)

    pub none_behind : (n : ℕ) → length new < n → stands_at first n ≡ None
    none_behind n h = at n ∙ (popped_beside new y n (λ e. omega (arith, e)) ∙ past new n (omega arith))

    pub none_was_there : y ≡ None → (n : ℕ) → stands_at new n ≡ stands_at first n
    none_was_there is n = sym (at n ∙ (ap (λ (z : Option X). stands_at (new ++ z ∷ []) n) is ∙ popped_none new n))

    pub one_fewer : length old ≡ length new + 1
    one_fewer = ap length items ∙ length-append new (y ∷ [])

use Rattle.std.proofs.Common.{◌≡◌, ◌==◌, ℕ, refl, ap, List, [], ◌∷◌, Some, slice_get, slice_set, zero, suc, eq-eqb}
use Rattle.wire_core.specs.Deeds.{Cargo}
use Rattle.wire_core.specs.Lists.{if_there}

-- what is there at its own place
pub if_there_here : (n : ℕ) (c : List Cargo) → if_there (n == n) c ≡ c
if_there_here n c = ap (λ b. if_there b c) (eq-eqb n n refl)

-- what was written at a place is there
pub slice_get_written : {X : Type 0} → (xs : List X) (i : ℕ) (x y : X) → slice_get xs i ≡ Some x → slice_get (slice_set xs i y) i ≡ Some y
slice_get_written [] i x y h = cc
slice_get_written (a ∷ xs) zero x y h = refl
slice_get_written (a ∷ xs) (suc i) x y h = slice_get_written xs i x y h

-- the other places stay
pub slice_get_beside : {X : Type 0} → (xs : List X) (i j : ℕ) (y : X) → (j ≡ i → ⊥) → slice_get (slice_set xs i y) j ≡ slice_get xs j
slice_get_beside [] i j y h = refl
slice_get_beside (a ∷ xs) zero zero y h = absurd (h refl)
slice_get_beside (a ∷ xs) zero (suc j) y h = refl
slice_get_beside (a ∷ xs) (suc i) zero y h = refl
slice_get_beside (a ∷ xs) (suc i) (suc j) y h = slice_get_beside xs i j y (λ e. h (ap suc e))

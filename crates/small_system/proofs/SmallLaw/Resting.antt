use Rattle.std.proofs.Common.{◌≡◌, ◌+◌, ℕ, suc, List, [], ◌∷◌, Option, Some, None, length, map, slice_get, refl, ap, subst, arith}
use Rattle.wire_core.specs.declared.names.Event.{Event}
use Rattle.play_core.specs.Moved.{Moved}
use Rattle.play_core.specs.Wants.{Want}
use Rattle.small_system.specs.Wants.{Wanting, wanted_from}

-- What actors want at one moment, as a wanting that is the same at each.

-- what is wanted by the actor of a place, if there is one
abbrev pub wants_or_none : {A : Type 0} → (A → List Want) → Option A → List Want
wants_or_none {A} wants None = []
wants_or_none {A} wants (Some x) = wants x

abbrev pub wanting : {A : Type 0} → (A → List Want) → List A → Wanting
wanting {A} wants actors k moves calls = wants_or_none wants (slice_get actors k)

front : {T : Type 0} {x y : T} {xs ys : List T} → x ≡ y → xs ≡ ys → x ∷ xs ≡ y ∷ ys
front e f = cc

-- of each actor in its place
pub wanted_here : {A : Type 0} (wants : A → List Want) (all : List A) (moves : Moved) (calls : List Event) (k : ℕ) (xs : List A) → ((i : ℕ) (x : A) → slice_get xs i ≡ Some x → slice_get all (k + i) ≡ Some x) → wanted_from (wanting wants all) k (length xs) moves calls ≡ map wants xs
wanted_here wants all moves calls k [] same = refl
wanted_here wants all moves calls k (x ∷ xs) same =
    let z : k + 0 ≡ k = omega arith in
    front (ap (wants_or_none wants) (subst (λ n. slice_get all n ≡ Some x) z (same 0 x refl)))
    (wanted_here wants all moves calls (k + 1) xs (λ i y at. let s : k + suc i ≡ (k + 1) + i = omega arith in subst (λ n. slice_get all n ≡ Some y) s (same (suc i) y at)))

-- Lemmas on lists side by side.
use Rattle.std.proofs.Common.{◌≡◌, ◌≤◌, ℕ, zero, suc, List, [], ◌∷◌, length, map, refl, ap, subst, arith, Some, None, slice_get}
use Rattle.std.specs.List.{AllZip}

pub both_at : {X Y : Type 0} (R : X → Y → Type 0) (xs : List X) (ys : List Y) → AllZip R xs ys → (n : ℕ) (x : X) (y : Y) → slice_get xs n ≡ Some x → slice_get ys n ≡ Some y → R x y
both_at R [] ys all n x y at there = cc
both_at R (a ∷ xs) [] all n x y at there = absurd all
both_at R (a ∷ xs) (b ∷ ys) all zero x y at there = let e : a ≡ x = cc in let f : b ≡ y = cc in subst (λ z. R z y) e (subst (R a) f all.0)
both_at R (a ∷ xs) (b ∷ ys) all (suc n) x y at there = both_at R xs ys all.1 n x y at there

pub none_beyond : {X : Type 0} (xs : List X) (n : ℕ) → length xs ≤ n → slice_get xs n ≡ None
none_beyond [] n le = refl
none_beyond (x ∷ xs) zero le = absurd (omega (arith, le))
none_beyond (x ∷ xs) (suc n) le = none_beyond xs n (omega (arith, le))

-- two lists of one length, with what holds of the two at each place
pub record Pair {X Y : Type 0} (R : X → Y → Type 0) : Type 0 where
  pub one : X
  pub other : Y
  pub holds : R one other

pub pairs : {X Y : Type 0} (R : X → Y → Type 0) (xs : List X) (ys : List Y) → length ys ≡ length xs → ((k : ℕ) (x : X) (y : Y) → slice_get xs k ≡ Some x → slice_get ys k ≡ Some y → R x y)
    → (ps : List (Pair R)) × (map (λ (p : Pair R). p.one) ps ≡ xs) × (map (λ (p : Pair R). p.other) ps ≡ ys)
pairs R [] [] many each = ([], refl, refl)
pairs R [] (y ∷ ys) many each = absurd (omega (arith, many))
pairs R (x ∷ xs) [] many each = absurd (omega (arith, many))
pairs R (x ∷ xs) (y ∷ ys) many each = let rest = pairs R xs ys (omega (arith, many)) (λ k a b at there. each (suc k) a b at there) in
    (record { one = x; other = y; holds = each 0 x y refl refl } ∷ rest.0, ap (λ z. x ∷ z) rest.1, ap (λ z. y ∷ z) rest.2)

pub maps_same : {X Y Z : Type 0} (f : X → Y) (g : Y → Z) (h : X → Z) (xs : List X) → ((x : X) → g (f x) ≡ h x) → map g (map f xs) ≡ map h xs
maps_same f g h [] same = refl
maps_same f g h (x ∷ xs) same = λ i. same x i ∷ maps_same f g h xs same i

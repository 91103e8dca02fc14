-- Lists side by side, and numbers that are less together.
use Rattle.std.proofs.Common.{◌≡◌, ◌<◌, ◌≤◌, ◌⊎◌, ℕ, zero, suc, nat_lt, Some, List, [], ◌∷◌, length, slice_get, refl, sym, ap, ◌∙◌, subst, arith, inl, inr}
use Rattle.std.specs.List.{AllZip, zip}
use Rattle.std.proofs.lemmas.Bool.{cases_lt, lt-ltb, le-ltb}

-- both at a place
pub zip_get : {X Y : Type 0} (xs : List X) (ys : List Y) (n : ℕ) (x : X) (y : Y) → slice_get xs n ≡ Some x → slice_get ys n ≡ Some y → slice_get (zip xs ys) n ≡ Some (x, y)
zip_get [] ys n x y at there = cc
zip_get (a ∷ xs) [] n x y at there = cc
zip_get (a ∷ xs) (b ∷ ys) zero x y at there = let e : a ≡ x = cc in let f : b ≡ y = cc in ap (λ z. Some (z, b)) e ∙ ap (λ z. Some (x, z)) f
zip_get (a ∷ xs) (b ∷ ys) (suc n) x y at there = zip_get xs ys n x y at there

pub zip_length : {X Y : Type 0} (xs : List X) (ys : List Y) → length ys ≡ length xs → length (zip xs ys) ≡ length xs
zip_length [] [] same = refl
zip_length [] (b ∷ ys) same = absurd (omega (arith, same))
zip_length (a ∷ xs) [] same = absurd (omega (arith, same))
zip_length (a ∷ xs) (b ∷ ys) same = ap suc (zip_length xs ys (omega (arith, same)))

-- what holds at each place holds of all
pub zip_all : {X Y : Type 0} (R : X → Y → Type 0) (xs : List X) (ys : List Y) → length ys ≡ length xs → ((n : ℕ) (x : X) (y : Y) → slice_get xs n ≡ Some x → slice_get ys n ≡ Some y → R x y) → AllZip R xs ys
zip_all R [] [] same each = tt
zip_all R [] (b ∷ ys) same each = absurd (omega (arith, same))
zip_all R (a ∷ xs) [] same each = absurd (omega (arith, same))
zip_all R (a ∷ xs) (b ∷ ys) same each = (each 0 a b refl refl, zip_all R xs ys (omega (arith, same)) (λ n x y at there. each (suc n) x y at there))

pub all_at : {X Y : Type 0} (R : X → Y → Type 0) (xs : List X) (ys : List Y) → AllZip R xs ys → (n : ℕ) (x : X) (y : Y) → slice_get xs n ≡ Some x → slice_get ys n ≡ Some y → R x y
all_at R [] ys all n x y at there = cc
all_at R (a ∷ xs) [] all n x y at there = absurd all
all_at R (a ∷ xs) (b ∷ ys) all zero x y at there = let e : a ≡ x = cc in let f : b ≡ y = cc in subst (λ z. R z y) e (subst (R a) f all.0)
all_at R (a ∷ xs) (b ∷ ys) all (suc n) x y at there = all_at R xs ys all.1 n x y at there

pub all_long : {X Y : Type 0} (R : X → Y → Type 0) (xs : List X) (ys : List Y) → AllZip R xs ys → length ys ≡ length xs
all_long R [] [] all = refl
all_long R [] (b ∷ ys) all = absurd all
all_long R (a ∷ xs) [] all = absurd all
all_long R (a ∷ xs) (b ∷ ys) all = ap suc (all_long R xs ys all.1)

-- two comparisons that come to the same
pub same_less : (a b c d : ℕ) → (a < b → c < d) → (b ≤ a → d ≤ c) → nat_lt a b ≡ nat_lt c d
same_less a b c d less more = by (cases_lt a b)
  where
    by : (a < b) ⊎ (b ≤ a) → nat_lt a b ≡ nat_lt c d
    by (inl lt) = lt-ltb a b lt ∙ sym (lt-ltb c d (less lt))
    by (inr le) = le-ltb a b le ∙ sym (le-ltb c d (more le))

-- What stands at the places.
use Rattle.std.proofs.Common.{◌≡◌, ◌≢◌, ◌∙◌, ◌⊎◌, inl, inr, ℕ, zero, suc, ◌<◌, List, [], ◌∷◌, ◌++◌, length, refl, sym, ap, arith, Option, Some, None, slice_get, slice_set}
use Rattle.wire_core.specs.declared.names.QueueId.{QueueId}
use Rattle.seat_wires.specs.Places.{stands_at}
use Rattle.order_law.specs.ActorParts.Placing.{AreWithin}

pub length_set : {Y : Type 0} (xs : List Y) (i : ℕ) (y : Y) → length (slice_set xs i y) ≡ length xs
length_set [] i y = refl
length_set (z ∷ xs) zero y = refl
length_set (z ∷ xs) (suc i) y = ap suc (length_set xs i y)

pub set_beside : {Y : Type 0} (xs : List Y) (i j : ℕ) (y : Y) → j ≢ i → slice_get (slice_set xs i y) j ≡ slice_get xs j
set_beside [] i j y ne = refl
set_beside (z ∷ xs) zero zero y ne = absurd (ne refl)
set_beside (z ∷ xs) zero (suc j) y ne = refl
set_beside (z ∷ xs) (suc i) zero y ne = refl
set_beside (z ∷ xs) (suc i) (suc j) y ne = set_beside xs i j y (λ e. ne (ap suc e))

pub get_within : {Y : Type 0} (xs : List Y) (i : ℕ) (x : Y) → slice_get xs i ≡ Some x → i < length xs
get_within [] i x is = cc
get_within (y ∷ xs) zero x is = omega arith
get_within (y ∷ xs) (suc i) x is = let h = get_within xs i x is in omega (arith, h)

pub same_end : {Y : Type 0} (x y : Y) → Some (Some x) ≡ Some (Some y) → x ≡ y
same_end x y e = cc

pub get_seam : {Y : Type 0} (xs : List Y) (x : Y) (ys : List Y) → slice_get (xs ++ x ∷ ys) (length xs) ≡ Some x
get_seam [] x ys = refl
get_seam (z ∷ xs) x ys = get_seam xs x ys

-- what stands in a list with one more behind
pub get_more : {Y : Type 0} (xs : List Y) (x y : Y) (i : ℕ) → slice_get (xs ++ x ∷ []) i ≡ Some y → ((i < length xs) × (slice_get xs i ≡ Some y)) ⊎ ((i ≡ length xs) × (y ≡ x))
get_more [] x y zero is = inr (refl, (let e : Some x ≡ Some y = is in cc))
get_more [] x y (suc i) is = cc
get_more (z ∷ xs) x y zero is = inl (omega arith, is)
get_more (z ∷ xs) x y (suc i) is = go (get_more xs x y i is)
  where
    go : ((i < length xs) × (slice_get xs i ≡ Some y)) ⊎ ((i ≡ length xs) × (y ≡ x)) → ((suc i < suc (length xs)) × (slice_get xs i ≡ Some y)) ⊎ ((suc i ≡ suc (length xs)) × (y ≡ x))
    go (inl h) = inl ((let lt = h.0 in omega arith), h.1)
    go (inr h) = inr (ap suc h.0, h.1)

module _ {X : Type 0} where
  pub within_rest : (many : ℕ) (x : QueueId × X) (xs : List (QueueId × X)) → AreWithin many (x ∷ xs) → AreWithin many xs
  within_rest many x xs h i y is = h (suc i) y is

-- the next of a list that was gone through so far
pub next_is : {Y : Type 0} (done into rest all : List Y) (x : Y) → done ++ into ≡ all → into ≡ x ∷ rest → slice_get all (length done) ≡ Some x
next_is done into rest all x split step = ap (λ l. slice_get l (length done)) (sym split ∙ ap (λ l. done ++ l) step) ∙ get_seam done x rest

pub none_left : {Y : Type 0} (xs : List Y) → length xs ≡ 0 → xs ≡ []
none_left [] is = refl
none_left (x ∷ xs) is = absurd (omega (arith, is))

-- an end that stands at its place still
pub still_there : {Y : Type 0} (now was : List (Option Y)) (place n : ℕ) (p : Y) → place ≡ n → slice_get now n ≡ slice_get was n → slice_get was n ≡ Some (Some p) → slice_get now place ≡ Some (Some p)
still_there now was place n p at same is = ap (λ m. slice_get now m) at ∙ (same ∙ is)

-- one place more at which nothing stands
pub none_more : {Y : Type 0} (xs : List (Option Y)) (n : ℕ) → stands_at xs n ≡ None → stands_at (xs ++ None ∷ []) n ≡ None
none_more [] zero is = refl
none_more [] (suc n) is = refl
none_more (x ∷ xs) zero is = is
none_more (x ∷ xs) (suc n) is = none_more xs n is

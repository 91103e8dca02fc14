-- Lemmas on lists.
use Rattle.std.proofs.Common.{◌≡◌, ◌≢◌, ◌∙◌, ℕ, zero, suc, ◌<◌, ◌≤◌, List, [], ◌∷◌, ◌++◌, length, map, refl, sym, ap, arith, append_assoc, append-nil, Some, slice_get, slice_set}
use Rattle.cargo_core.specs.Lists.{IsPrefix}

module _ {X : Type 0} where
  pub same_some : (x y : X) → Some x ≡ Some y → x ≡ y
  same_some x y e = cc

  pub get_there : (xs : List X) (i : ℕ) → i < length xs → (x : X) × (slice_get xs i ≡ Some x)
  get_there [] i lt = absurd (omega arith)
  get_there (x ∷ xs) zero lt = (x, refl)
  get_there (x ∷ xs) (suc i) lt = get_there xs i (omega arith)

  pub get_within : (xs : List X) (i : ℕ) (x : X) → slice_get xs i ≡ Some x → i < length xs
  get_within [] i x is = cc
  get_within (y ∷ xs) zero x is = omega arith
  get_within (y ∷ xs) (suc i) x is = let h = get_within xs i x is in omega (arith, h)

  pub get_front : (xs ys : List X) (i : ℕ) (x : X) → slice_get xs i ≡ Some x → slice_get (xs ++ ys) i ≡ Some x
  get_front [] ys i x is = cc
  get_front (z ∷ xs) ys zero x is = is
  get_front (z ∷ xs) ys (suc i) x is = get_front xs ys i x is

  pub get_last : (xs : List X) (x : X) (ys : List X) → slice_get (xs ++ x ∷ ys) (length xs) ≡ Some x
  get_last [] x ys = refl
  get_last (z ∷ xs) x ys = get_last xs x ys

  pub set_there : (xs : List X) (i : ℕ) (x y : X) → slice_get xs i ≡ Some x → slice_get (slice_set xs i y) i ≡ Some y
  set_there [] i x y is = cc
  set_there (z ∷ xs) zero x y is = refl
  set_there (z ∷ xs) (suc i) x y is = set_there xs i x y is

  pub set_beside : (xs : List X) (i j : ℕ) (y : X) → j ≢ i → slice_get (slice_set xs i y) j ≡ slice_get xs j
  set_beside [] i j y ne = refl
  set_beside (z ∷ xs) zero zero y ne = absurd (ne refl)
  set_beside (z ∷ xs) zero (suc j) y ne = refl
  set_beside (z ∷ xs) (suc i) zero y ne = refl
  set_beside (z ∷ xs) (suc i) (suc j) y ne = set_beside xs i j y (λ e. ne (ap suc e))

  pub length_set : (xs : List X) (i : ℕ) (y : X) → length (slice_set xs i y) ≡ length xs
  length_set [] i y = refl
  length_set (z ∷ xs) zero y = refl
  length_set (z ∷ xs) (suc i) y = ap suc (length_set xs i y)

  -- lists with the same at each place
  pub same_lists : (xs ys : List X) → length xs ≡ length ys → ((i : ℕ) (x : X) → slice_get xs i ≡ Some x → slice_get ys i ≡ Some x) → xs ≡ ys
  same_lists [] [] many each = refl
  same_lists [] (y ∷ ys) many each = absurd (omega (arith, many))
  same_lists (x ∷ xs) [] many each = absurd (omega (arith, many))
  same_lists (x ∷ xs) (y ∷ ys) many each = let first : y ≡ x = same_some y x (each 0 x refl) in let rest : xs ≡ ys = same_lists xs ys (omega (arith, many)) (λ i z is. each (suc i) z is) in
      λ i. sym first i ∷ rest i

  pub same_heads : (x y : X) (xs ys : List X) → x ∷ xs ≡ y ∷ ys → x ≡ y
  same_heads x y xs ys e = cc

  same_tails : (x y : X) (xs ys : List X) → x ∷ xs ≡ y ∷ ys → xs ≡ ys
  same_tails x y xs ys e = cc

  -- of two beginnings of one list the shorter begins the longer
  pub two_prefixes : (ts ss more others : List X) → ts ++ more ≡ ss ++ others → length ts ≤ length ss → IsPrefix ts ss
  two_prefixes [] ss more others is le = (ss, refl)
  two_prefixes (t ∷ ts) [] more others is le = absurd (omega arith)
  two_prefixes (t ∷ ts) (s ∷ ss) more others is le = let rest = two_prefixes ts ss more others (same_tails t s (ts ++ more) (ss ++ others) is) (omega arith) in
      (rest.0, ap (λ (z : List X). t ∷ z) rest.1 ∙ ap (λ (z : X). z ∷ ss) (same_heads t s (ts ++ more) (ss ++ others) is))

  pub prefix_same : (xs : List X) → IsPrefix xs xs
  prefix_same xs = ([], append-nil xs)

  pub prefix_then : (xs ys zs : List X) → IsPrefix xs ys → IsPrefix ys zs → IsPrefix xs zs
  prefix_then xs ys zs a b = (a.0 ++ b.0, sym (append_assoc xs a.0 b.0) ∙ (ap (λ (z : List X). z ++ b.0) a.1 ∙ b.1))

pub map_set : {X Y : Type 0} (f : X → Y) (xs : List X) (i : ℕ) (x : X) → map f (slice_set xs i x) ≡ slice_set (map f xs) i (f x)
map_set f [] i x = refl
map_set f (y ∷ xs) zero x = refl
map_set f (y ∷ xs) (suc i) x = ap (λ z. f y ∷ z) (map_set f xs i x)

pub map_there : {X Y : Type 0} (f : X → Y) (xs : List X) (i : ℕ) (x : X) → slice_get xs i ≡ Some x → slice_get (map f xs) i ≡ Some (f x)
map_there f [] i x is = cc
map_there f (y ∷ xs) zero x is = ap (λ z. Some (f z)) (same_some y x is)
map_there f (y ∷ xs) (suc i) x is = map_there f xs i x is

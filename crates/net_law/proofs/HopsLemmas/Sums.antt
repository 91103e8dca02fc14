use Rattle.std.proofs.Common.{◌≡◌, ◌≤◌, ◌+◌, ◌*◌, ℕ, zero, suc, Some, List, [], ◌∷◌, length, slice_get, sum_by, refl, ap, subst, arith}
use Rattle.std.proofs.lemmas.List.Sums.{sum_by-cons}
use Rattle.wire_core.specs.Marks.{sum_below}

-- a sum in two parts
pub sum_parts : (f : ℕ → ℕ) (a b : ℕ) → sum_below f (a + b) ≡ sum_below f a + sum_below (λ n. f (a + n)) b
sum_parts f a zero = let e : sum_below f (a + 0) ≡ sum_below f a = ap (sum_below f) (omega arith) in omega (arith, e)
sum_parts f a (suc b) =
    let n : a + suc b ≡ suc (a + b) = omega arith in
    let e : sum_below f (a + suc b) ≡ sum_below f (suc (a + b)) = ap (sum_below f) n in
    let h = sum_parts f a b in
    omega (arith, e, h)

-- every sixth number of a sum, from one on
abbrev pub sixth : (f : ℕ → ℕ) (j k : ℕ) → ℕ
sixth f j k = sum_below (λ n. f (j + 6 * n)) k

-- a sum by sixes
pub sum_sixes : (f : ℕ → ℕ) (k : ℕ) → sum_below f (6 * k) ≡ sixth f 0 k + sixth f 1 k + sixth f 2 k + sixth f 3 k + sixth f 4 k + sixth f 5 k
sum_sixes f zero = refl
sum_sixes f (suc k) =
    let n : 6 * suc k ≡ 6 * k + 6 = omega arith in
    let e : sum_below f (6 * suc k) ≡ sum_below f (6 * k + 6) = ap (sum_below f) n in
    let parts = sum_parts f (6 * k) 6 in
    let h = sum_sixes f k in
    let a : f (6 * k + 0) ≡ f (0 + 6 * k) = ap f (omega arith) in
    let b : f (6 * k + 1) ≡ f (1 + 6 * k) = ap f (omega arith) in
    let c : f (6 * k + 2) ≡ f (2 + 6 * k) = ap f (omega arith) in
    let d : f (6 * k + 3) ≡ f (3 + 6 * k) = ap f (omega arith) in
    let g : f (6 * k + 4) ≡ f (4 + 6 * k) = ap f (omega arith) in
    let i : f (6 * k + 5) ≡ f (5 + 6 * k) = ap f (omega arith) in
    omega (arith, e, parts, h, a, b, c, d, g, i)

-- a number for each
abbrev pub times_each : {X : Type 0} → List X → ℕ → ℕ
times_each xs n = sum_by (λ x. n) xs

-- a sum over places is no more than a number for each element, and one for each place
pub below_list : {X : Type 0} (f : ℕ → ℕ) (g : X → ℕ) (c n : ℕ) (xs : List X) → ((k : ℕ) (x : X) → slice_get xs k ≡ Some x → f (n + k) ≤ g x + c) → sum_below f (n + length xs) ≤ sum_below f n + (sum_by g xs + times_each xs c)
below_list f g c n [] h = let e : sum_below f (n + 0) ≡ sum_below f n = ap (sum_below f) (omega arith) in omega (arith, e)
below_list f g c n (x ∷ xs) h =
    let one : f n ≤ g x + c = subst (λ k. f k ≤ g x + c) (omega arith) (h 0 x refl) in
    let rest = below_list f g c (suc n) xs (λ k y at. subst (λ i. f i ≤ g y + c) (omega arith) (h (suc k) y at)) in
    let size : sum_below f (suc n + length xs) ≡ sum_below f (n + suc (length xs)) = ap (sum_below f) (omega arith) in
    let a = sum_by-cons g x xs in
    let b = sum_by-cons (λ (y : _). c) x xs in
    omega (arith, one, rest, size, a, b)

-- a number for each is a product
pub each_is : {X : Type 0} (xs : List X) (n : ℕ) → times_each xs n ≡ length xs * n
each_is [] n = omega arith
each_is (x ∷ xs) n = let h = each_is xs n in let a = sum_by-cons (λ (y : _). n) x xs in omega (arith, h, a)

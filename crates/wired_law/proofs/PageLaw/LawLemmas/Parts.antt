-- Four of the first numbers, and three of a list.
use Rattle.std.proofs.Common.{◌≡◌, ◌+◌, ◌==◌, ◌<◌, ◌≤◌, ℕ, zero, suc, Bool, true, false, not, Some, List, [], ◌∷◌, slice_get, refl, sym, ap, ◌∙◌, arith, eq-eqb, ne_eqb}
use Rattle.std.specs.List.{sum_by}
use Rattle.std.proofs.lemmas.List.Sums.{sum_by-cons}
use Rattle.wire_core.specs.Marks.{sum_below}
use Rattle.play_core.proofs.Lists.{some_is}
use Rattle.owner_law.proofs.Sums.{when}
use Rattle.owner_law.proofs.Counting.{below_plus, below_same, below_one}

-- all but one number
abbrev pub but : ℕ → (ℕ → ℕ) → ℕ → ℕ
but a f n = when (not (n == a)) (f n)

pub but_same : (a : ℕ) (f : ℕ → ℕ) (n : ℕ) → (a ≡ n → ⊥) → but a f n ≡ f n
but_same a f n ne = ap (λ t. when (not t) (f n)) (ne_eqb n a (λ e. ne (sym e)))

split : (t : Bool) (x : ℕ) → x ≡ when t x + when (not t) x
split true x = omega arith
split false x = omega arith

pub take_out : (f : ℕ → ℕ) (k a : ℕ) → a < k → sum_below f k ≡ f a + sum_below (but a f) k
take_out f k a lt =
    let parts = below_same f (λ n. when (n == a) (f n) + but a f n) k (λ n l. split (n == a) (f n)) in
    let sums = below_plus (λ n. when (n == a) (f n)) (but a f) k in
    let one = below_one (λ n. when (n == a) (f n)) k a (f a) lt (ap (λ t. when t (f a)) (eq-eqb a a refl)) (λ n ne. ap (λ t. when t (f n)) (ne_eqb n a (λ e. ne (sym e)))) in
    omega (arith, parts, sums, one)

pub four_below : (f : ℕ → ℕ) (k a b c d : ℕ) → a < k → b < k → c < k → d < k → (a ≡ b → ⊥) → (a ≡ c → ⊥) → (a ≡ d → ⊥) → (b ≡ c → ⊥) → (b ≡ d → ⊥) → (c ≡ d → ⊥) → f a + f b + f c + f d ≤ sum_below f k
four_below f k a b c d la lb lc ld ab ac ad bc bd cd =
    let one = take_out f k a la in
    let two = take_out (but a f) k b lb in
    let three = take_out (but b (but a f)) k c lc in
    let four = take_out (but c (but b (but a f))) k d ld in
    let fb = but_same a f b ab in
    let fc = but_same b (but a f) c bc ∙ but_same a f c ac in
    let fd = but_same c (but b (but a f)) d cd ∙ (but_same b (but a f) d bd ∙ but_same a f d ad) in
    omega (arith, one, two, three, four, fb, fc, fd)

-- one of a list
pub one_of : {X : Type 0} (g : X → ℕ) (xs : List X) (k : ℕ) (x : X) → slice_get xs k ≡ Some x → g x ≤ sum_by g xs
one_of g [] k x at = cc
one_of g (y ∷ xs) zero x at = omega (arith, sum_by-cons g y xs, ap g (some_is at))
one_of g (y ∷ xs) (suc k) x at = omega (arith, sum_by-cons g y xs, one_of g xs k x at)

-- two of it
pub two_of : {X : Type 0} (g : X → ℕ) (xs : List X) (j k : ℕ) (a b : X) → slice_get xs j ≡ Some a → slice_get xs k ≡ Some b → (j ≡ k → ⊥) → g a + g b ≤ sum_by g xs
two_of g [] j k a b at at' ne = cc
two_of g (x ∷ xs) zero zero a b at at' ne = absurd (ne refl)
two_of g (x ∷ xs) zero (suc k) a b at at' ne = omega (arith, sum_by-cons g x xs, ap g (some_is at), one_of g xs k b at')
two_of g (x ∷ xs) (suc j) zero a b at at' ne = omega (arith, sum_by-cons g x xs, ap g (some_is at'), one_of g xs j a at)
two_of g (x ∷ xs) (suc j) (suc k) a b at at' ne = omega (arith, sum_by-cons g x xs, two_of g xs j k a b at at' (λ e. ne (ap (λ n. suc n) e)))

-- three of it
pub three_of : {X : Type 0} (g : X → ℕ) (xs : List X) (i j k : ℕ) (a b c : X) → slice_get xs i ≡ Some a → slice_get xs j ≡ Some b → slice_get xs k ≡ Some c → (i ≡ j → ⊥) → (i ≡ k → ⊥) → (j ≡ k → ⊥) → g a + g b + g c ≤ sum_by g xs
three_of g [] i j k a b c at at' at'' ij ik jk = cc
three_of g (x ∷ xs) zero zero k a b c at at' at'' ij ik jk = absurd (ij refl)
three_of g (x ∷ xs) zero (suc j) zero a b c at at' at'' ij ik jk = absurd (ik refl)
three_of g (x ∷ xs) (suc i) zero zero a b c at at' at'' ij ik jk = absurd (jk refl)
three_of g (x ∷ xs) zero (suc j) (suc k) a b c at at' at'' ij ik jk = omega (arith, sum_by-cons g x xs, ap g (some_is at), two_of g xs j k b c at' at'' (λ e. jk (ap (λ n. suc n) e)))
three_of g (x ∷ xs) (suc i) zero (suc k) a b c at at' at'' ij ik jk = omega (arith, sum_by-cons g x xs, ap g (some_is at'), two_of g xs i k a c at at'' (λ e. ik (ap (λ n. suc n) e)))
three_of g (x ∷ xs) (suc i) (suc j) zero a b c at at' at'' ij ik jk = omega (arith, sum_by-cons g x xs, ap g (some_is at''), two_of g xs i j a b at at' (λ e. ij (ap (λ n. suc n) e)))
three_of g (x ∷ xs) (suc i) (suc j) (suc k) a b c at at' at'' ij ik jk =
    omega (arith, sum_by-cons g x xs, three_of g xs i j k a b c at at' at'' (λ e. ij (ap (λ n. suc n) e)) (λ e. ik (ap (λ n. suc n) e)) (λ e. jk (ap (λ n. suc n) e)))

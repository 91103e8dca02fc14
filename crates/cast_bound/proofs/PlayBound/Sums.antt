use Rattle.std.proofs.Common.{◌≡◌, ◌≤◌, ◌+◌, ◌*◌, ℕ, zero, suc, Some, List, [], ◌∷◌, length, slice_get, refl, ap, subst, arith}
use Rattle.wire_core.specs.Marks.{sum_below}
use Rattle.play_core.specs.Moved.{Moved}
use Rattle.serial_law.specs.Hops.Hops.{put_to}

-- a sum by pairs
pub sum_pairs : (f : ℕ → ℕ) (k : ℕ) → sum_below f (2 * k) ≡ sum_below (λ n. f (2 * n)) k + sum_below (λ n. f (1 + 2 * n)) k
sum_pairs f zero = refl
sum_pairs f (suc k) =
    let n : 2 * suc k ≡ suc (suc (2 * k)) = omega arith in
    let e : sum_below f (2 * suc k) ≡ sum_below f (suc (suc (2 * k))) = ap (sum_below f) n in
    let h = sum_pairs f k in
    let o : f (suc (2 * k)) ≡ f (1 + 2 * k) = ap f (omega arith) in
    omega (arith, e, h, o)

-- what was put to queues is at least a sum over their places
pub put_sum : (m : Moved) (f : ℕ → ℕ) (n : ℕ) (qs : List ℕ) → ((k q : ℕ) → slice_get qs k ≡ Some q → f (n + k) ≤ length (m.sent q)) → sum_below f (n + length qs) ≤ put_to qs m + sum_below f n
put_sum m f n [] h = let e : sum_below f (n + 0) ≡ sum_below f n = ap (sum_below f) (omega arith) in omega (arith, e)
put_sum m f n (q ∷ qs) h =
    let one : f n ≤ length (m.sent q) = subst (λ k. f k ≤ length (m.sent q)) (omega arith) (h 0 q refl) in
    let rest = put_sum m f (suc n) qs (λ k p at. subst (λ i. f i ≤ length (m.sent p)) (omega arith) (h (suc k) p at)) in
    let size : sum_below f (n + suc (length qs)) ≡ sum_below f (suc n + length qs) = ap (sum_below f) (omega arith) in
    omega (arith, one, rest, size)

-- What the pages of a pool weigh, by their numbers.
use Rattle.std.proofs.Common.{◌≡◌, ◌+◌, ◌<◌, ℕ, zero, suc, Some, List, [], ◌∷◌, length, slice_get, refl, ap, arith}
use Rattle.cargo_core.specs.declared.item.PoolId.{PoolId}
use Rattle.cargo_core.specs.Pages.{Paged}
use Rattle.wire_core.specs.Marks.{sum_below}
use Rattle.buffer_kit.specs.Pools.{ArePool, page_bodies}
use Rattle.buffer_kit.specs.Conserving.{Count, counted}

-- sums over the first numbers
pub plus : (f g : ℕ → ℕ) (k : ℕ) → sum_below (λ n. f n + g n) k ≡ sum_below f k + sum_below g k
plus f g zero = refl
plus f g (suc k) = omega (arith, plus f g k)

pub same_sum : (f g : ℕ → ℕ) (k : ℕ) → ((n : ℕ) → n < k → f n ≡ g n) → sum_below f k ≡ sum_below g k
same_sum f g zero same = refl
same_sum f g (suc k) same = omega (arith, same_sum f g k (λ n lt. same n (omega (arith, lt))), same k (omega arith))

pub none_sum : (k : ℕ) → sum_below (λ n. 0) k ≡ 0
none_sum zero = refl
none_sum (suc k) = omega (arith, none_sum k)

pub first_sum : (f : ℕ → ℕ) (k : ℕ) → sum_below f (suc k) ≡ f 0 + sum_below (λ n. f (suc n)) k
first_sum f zero = omega arith
first_sum f (suc k) = omega (arith, first_sum f k)

-- the pages of a pool, from a number on
pub pages_weight : (f : Count) (pool : PoolId) (size : ℕ) (pages : List Paged) (from : ℕ) → ((k : ℕ) (p : Paged) → slice_get pages k ≡ Some p → (p.pool ≡ pool) × (p.no ≡ from + k) × (length p.bytes ≡ size)) → counted f (page_bodies pages) ≡ sum_below (λ b. f pool (from + b) size) (length pages)
pages_weight f pool size [] from h = refl
pages_weight f pool size (p ∷ pages) from h =
    let here = h zero p refl in
    let same : f p.pool p.no (length p.bytes) ≡ f pool (from + 0) size = rw (here.0, here.1, here.2) refl in
    let rest = pages_weight f pool size pages (suc from) (λ k q at. let r = h (suc k) q at in (r.0, (let e = r.1 in omega (arith, e)), r.2)) in
    let first = first_sum (λ b. f pool (from + b) size) (length pages) in
    let shift = same_sum (λ b. f pool (suc from + b) size) (λ b. f pool (from + suc b) size) (length pages) (λ b l. ap (λ n. f pool n size) (omega arith)) in
    omega (arith, same, rest, first, shift)

-- all of a pool
pub pool_weight : (f : Count) (base : ℕ) (pool : PoolId) (size : ℕ) (pages : List Paged) → ArePool base pool size pages → counted f (page_bodies pages) ≡ sum_below (λ b. f pool b size) (length pages)
pool_weight f base pool size pages are =
    let all = pages_weight f pool size pages 0 (λ k q at. (are.same_pool k q at, (let e = are.numbered k q at in omega (arith, e)), are.sized k q at)) in
    let moved = same_sum (λ b. f pool (0 + b) size) (λ b. f pool b size) (length pages) (λ b l. ap (λ n. f pool n size) (omega arith)) in
    omega (arith, all, moved)

-- No buffers are those of a pool without any.
use Rattle.std.proofs.Common.{◌≡◌, ◌+◌, ◌*◌, ◌^◌, ◌<◌, ◌≤◌, ℕ, [], Some, slice_get, arith}
use Rattle.cargo_core.specs.Pages.{Paged}
use Rattle.buffer_kit.specs.Pools.{ArePool}

pub no_pages : (size : ℕ) → 0 < size → ArePool 0 (record { 0 = 0 }) size []
no_pages size some = record {
  same_pool = λ k p at. absurd (none_at k p at);
  numbered = λ k p at. absurd (none_at k p at);
  sized = λ k p at. absurd (none_at k p at);
  some = some;
  few = omega arith;
  ends = let ends : 0 + 0 * size ≤ 2 ^ 62 = omega arith in ends;
}
  where
    none_at : (k : ℕ) (p : Paged) → slice_get [] k ≡ Some p → ⊥
    none_at k p at = cc

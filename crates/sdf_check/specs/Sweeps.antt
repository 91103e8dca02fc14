-- What a sweep over ranges keeps, until one meets an earlier one.
use Rattle.std.specs.Prelude.{◌≡◌, ℕ, ◌<◌, ◌≤◌, List, Option, Some, slice_get}
use Rattle.sdf_check.specs.Rules.{Range}

-- what was kept of the ranges before a place: for each base of one that isn't empty its end, and
-- they don't meet
pub record Holds (kept : ℕ → Option ℕ) (ranges : List (Option Range)) (at : ℕ) : Type 0 where
  pub known : (base end : ℕ) → kept base ≡ Some end
      → (base < end) × ((k : ℕ) × (k < at) × (slice_get ranges k ≡ Some (Some (base, end))))
  pub all : (k base end : ℕ) → k < at → slice_get ranges k ≡ Some (Some (base, end)) → base < end
      → kept base ≡ Some end
  pub apart : (base end other last : ℕ) → kept base ≡ Some end → kept other ≡ Some last
      → base < other → end ≤ other

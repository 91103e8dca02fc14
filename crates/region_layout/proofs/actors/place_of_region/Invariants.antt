use Rattle.std.proofs.Common.{◌≡◌, ℕ, ◌<◌, false, Some}
use Rattle.std.specs.Prelude.{bytes_eq, slice_get}
use Rattle.region_layout.proofs.actors.place_of_region.Given as goal
use Rattle.sdf_plan.specs.declared.plan.Region.{Region}

abbrev pub invariant-loop-place : goal.invariant-loop-place
invariant-loop-place l = (k : ℕ) (region : Region) → k < l.place → slice_get l.regions k ≡ Some region → bytes_eq region.name l.name ≡ false

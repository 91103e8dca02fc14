use Rattle.std.proofs.Common.{◌≡◌, ◌<◌, ℕ, false, slice_index_or}
use Rattle.cargo_core.specs.declared.ranges.Range.{Range}
use Rattle.cargo_core.specs.Ranges.{is_within}
use Rattle.cargo_core.proofs.ranges.Ranges.client_of.Given as goal

abbrev pub invariant-loop-client : goal.invariant-loop-client
invariant-loop-client l = (k : ℕ) (d : Range) → k < l.client → is_within (slice_index_or l.range-items k d) l.address ≡ false

use Rattle.std.proofs.Common.{◌≡◌, ◌+◌, ◌*◌, ◌^◌, ◌≤◌, ◌++◌, drop}
use Rattle.region_layout.specs.Bases.{bases_of, bases_from}
use Rattle.region_layout.proofs.bases.bases_of.Given as goal

abbrev pub invariant-loop-region : goal.invariant-loop-region
invariant-loop-region l = (l.bases ++ bases_from l.free (drop l.region-index l.regions) ≡ bases_of l.regions) × (l.free ≤ 2 ^ 40 + 2 ^ 31 * l.region-index)

use Rattle.std.proofs.Common.{◌≡◌, map, take}
use Rattle.sdf_check.specs.Rules.{given_range}
use Rattle.sdf_check.proofs.tables.first_given.Given as goal

abbrev pub invariant-loop-region : goal.invariant-loop-region
invariant-loop-region l = l.ranges.items ≡ map given_range (take l.region-index l.regions)

use Rattle.std.proofs.Common.{◌≡◌, map, take}
use Rattle.sdf_check.specs.Rules.{map_range}
use Rattle.sdf_check.proofs.tables.first_map.Given as goal

abbrev pub invariant-loop-map : goal.invariant-loop-map
invariant-loop-map l = l.ranges.items ≡ map (map_range l.judge.plan.now) (take l.map-index l.maps)

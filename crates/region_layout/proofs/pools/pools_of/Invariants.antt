use Rattle.std.proofs.Common.{◌≡◌, take}
use Rattle.std.specs.List.{flat_map}
use Rattle.sdf_plan.specs.ClassTable.Numbers.{seen}
use Rattle.region_layout.specs.Rows.{pool_rows}
use Rattle.region_layout.proofs.pools.pools_of.Given as goal

abbrev pub invariant-loop-at : goal.invariant-loop-at
invariant-loop-at l = l.pools ≡ flat_map (λ e. pool_rows l.names.plan.now (seen e)) (take l.at l.elements.items)

use Rattle.std.proofs.Common.{◌≡◌, ◌++◌, map, take}
use Rattle.sdf_plan.specs.ClassTable.Shown.{pool_shown}
use Rattle.region_layout.specs.Rows.{pool_row}
use Rattle.region_layout.proofs.pools.add_element.Given as goal

abbrev pub invariant-loop-pool : goal.invariant-loop-pool
invariant-loop-pool l = l.into ≡ l.fn.into ++ map (pool_row l.names.plan.now) (map pool_shown (take l.pool-index l.element.pools))

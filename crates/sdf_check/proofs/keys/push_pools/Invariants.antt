use Rattle.std.proofs.Common.{◌≡◌, ◌++◌, map, take}
use Rattle.sdf_plan.specs.ClassTable.Names.{pool_region}
use Rattle.sdf_plan.specs.ClassTable.Shown.{pool_shown}
use Rattle.sdf_check.specs.Lookups.{names_shown}
use Rattle.sdf_check.proofs.keys.push_pools.Given as goal

abbrev pub invariant-loop-pool : goal.invariant-loop-pool
invariant-loop-pool l = names_shown l.names.items ≡ names_shown l.fn.names.items ++ map pool_region (map pool_shown (take l.pool-index l.pools))

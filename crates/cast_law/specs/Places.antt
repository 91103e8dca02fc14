-- Where the classes of a plan that have pools stand.
use Rattle.std.specs.Option.{option_map}
use Rattle.sdf_plan.specs.declared.plan.Plan.{Plan}
use Rattle.trace_text.specs.declared.trace.Trace.{Trace}
use Rattle.cast_core.specs.Casts.{net_place, blk_place}
use Rattle.cast_law.specs.Pools.Places.{PoolPlace}

-- the network where the layout places it, if the plan has one, and so the block class
abbrev pub pool_place : Plan → Trace → PoolPlace
pool_place plan trace = record {
  net = option_map (λ net. net_place plan trace) plan.net;
  blk = option_map (λ blk. blk_place plan trace) plan.blk;
}

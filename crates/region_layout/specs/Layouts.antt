-- The layout of a plan, as one value.
use Rattle.sdf_plan.specs.declared.plan.Plan.{Plan}
use Rattle.region_layout.specs.declared.layout.Layout.{Layout}
use Rattle.region_layout.specs.Bases.{bases_of}
use Rattle.region_layout.specs.Rows.{queues_of, pools_of, actors_of}

-- the layout of a plan
unfoldable pub layout_of : Plan → Layout
layout_of plan = record {
  bases = bases_of plan.memory_region;
  queues = queues_of plan;
  pools = pools_of plan;
  actors = actors_of plan;
}

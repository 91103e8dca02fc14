use Rattle.sdf_plan.specs.ClassTable.Shown.{queue_shown, pool_shown}
use Rattle.sdf_check.specs.ClassRules.{QueueHasNoRegion, PoolHasNoRegion}
use Rattle.sdf_check.proofs.RowLemmas.{rows-one, second-asked}
use Rattle.sdf_check.proofs.rows.uses_no_region.Goals as goal

pub returns-else-queues_have_no_region : goal.returns-else-queues_have_no_region
returns-else-queues_have_no_region c =
    second-asked c.queues_have_no_region.result c.pools_have_no_region.result
    (rows-one (QueueHasNoRegion c.args.judge.now.plan.now) queue_shown _ c.args.element.now.queues c.queues_have_no_region.result c.as_slice.ensures c.queues_have_no_region.ensures)
    c.if-queues_have_no_region.false
    (rows-one (PoolHasNoRegion c.args.judge.now.plan.now) pool_shown _ c.args.element.now.pools c.pools_have_no_region.result c.as_slice-else-queues_have_no_region.ensures c.pools_have_no_region.ensures)

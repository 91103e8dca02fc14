use Rattle.sdf_plan.specs.ClassTable.Shown.{queue_shown, pool_shown}
use Rattle.sdf_check.specs.ClassRules.{QueueHasStranger, PoolHasStranger}
use Rattle.sdf_check.proofs.RowLemmas.{rows-one, second-asked}
use Rattle.sdf_check.proofs.rows.is_shared_with_stranger.Goals as goal

pub returns-else-queues_have_stranger : goal.returns-else-queues_have_stranger
returns-else-queues_have_stranger c =
    second-asked c.queues_have_stranger.result c.pools_have_stranger.result
    (rows-one (QueueHasStranger c.args.judge.now.plan.now) queue_shown _ c.args.element.now.queues c.queues_have_stranger.result c.as_slice.ensures c.queues_have_stranger.ensures)
    c.if-queues_have_stranger.false
    (rows-one (PoolHasStranger c.args.judge.now.plan.now) pool_shown _ c.args.element.now.pools c.pools_have_stranger.result c.as_slice-else-queues_have_stranger.ensures c.pools_have_stranger.ensures)

use Rattle.sdf_plan.specs.ClassTable.Shown.{queue_shown, pool_shown}
use Rattle.sdf_check.specs.ClassRules.{QueueLacksRight, PoolLacksRight}
use Rattle.sdf_check.proofs.RowLemmas.{rows-one, second-asked}
use Rattle.sdf_check.proofs.rows.lacks_right.Goals as goal

pub returns-else-queues_lack_right : goal.returns-else-queues_lack_right
returns-else-queues_lack_right c =
    second-asked c.queues_lack_right.result c.pools_lack_right.result
    (rows-one (QueueLacksRight c.args.judge.now.plan.now) queue_shown _ c.args.element.now.queues c.queues_lack_right.result c.as_slice.ensures c.queues_lack_right.ensures)
    c.if-queues_lack_right.false
    (rows-one (PoolLacksRight c.args.judge.now.plan.now) pool_shown _ c.args.element.now.pools c.pools_lack_right.result c.as_slice-else-queues_lack_right.ensures c.pools_lack_right.ensures)

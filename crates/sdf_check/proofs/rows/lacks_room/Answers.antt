use Rattle.sdf_plan.specs.ClassTable.Shown.{queue_shown, pool_shown}
use Rattle.sdf_check.specs.ClassRules.{QueueLacksRoom, PoolLacksRoom}
use Rattle.sdf_check.proofs.RowLemmas.{rows-one, second-asked}
use Rattle.sdf_check.proofs.rows.lacks_room.Goals as goal

pub returns-else-queues_lack_room : goal.returns-else-queues_lack_room
returns-else-queues_lack_room c =
    second-asked c.queues_lack_room.result c.pools_lack_room.result
    (rows-one (QueueLacksRoom c.args.judge.now.plan.now) queue_shown _ c.args.element.now.queues c.queues_lack_room.result c.as_slice.ensures c.queues_lack_room.ensures)
    c.if-queues_lack_room.false
    (rows-one (PoolLacksRoom c.args.judge.now.plan.now) pool_shown _ c.args.element.now.pools c.pools_lack_room.result c.as_slice-else-queues_lack_room.ensures c.pools_lack_room.ensures)

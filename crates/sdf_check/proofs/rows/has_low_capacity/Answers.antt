use Rattle.std.proofs.Common.{◌<◌}
use Rattle.sdf_plan.specs.declared.class_table.uses.QueueUse.{QueueUse}
use Rattle.sdf_plan.specs.ClassTable.Rows.{Name}
use Rattle.sdf_plan.specs.ClassTable.Shown.{queue_shown}
use Rattle.sdf_check.proofs.RowLemmas.{rows-one}
use Rattle.sdf_check.proofs.rows.has_low_capacity.Goals as goal

pub returns : goal.returns
returns c = rows-one (λ (q : QueueUse Name). q.capacity < q.holds) queue_shown _ c.args.element.now.queues c.queues_have_low_capacity.result c.as_slice.ensures c.queues_have_low_capacity.ensures

use Rattle.sdf_plan.specs.declared.class_table.uses.QueueUse.{QueueUse}
use Rattle.sdf_plan.specs.ClassTable.Rows.{Name}
use Rattle.sdf_plan.specs.ClassTable.Shown.{queue_shown}
use Rattle.cargo_core.specs.Capacities.{IsCapacity}
use Rattle.sdf_check.proofs.RowLemmas.{rows-one}
use Rattle.sdf_check.proofs.rows.has_bad_capacity.Goals as goal

pub returns : goal.returns
returns c = rows-one (λ (q : QueueUse Name). ¬ IsCapacity q.capacity) queue_shown _ c.args.element.now.queues c.queues_have_bad_capacity.result c.as_slice.ensures c.queues_have_bad_capacity.ensures

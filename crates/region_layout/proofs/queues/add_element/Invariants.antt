use Rattle.std.proofs.Common.{◌≡◌, ◌++◌, map, take}
use Rattle.sdf_plan.specs.ClassTable.Shown.{queue_shown}
use Rattle.region_layout.specs.Rows.{queue_row}
use Rattle.region_layout.proofs.queues.add_element.Given as goal

abbrev pub invariant-loop-queue : goal.invariant-loop-queue
invariant-loop-queue l = l.into ≡ l.fn.into ++ map (queue_row l.names.plan.now l.element.place) (map queue_shown (take l.queue-index l.element.queues))

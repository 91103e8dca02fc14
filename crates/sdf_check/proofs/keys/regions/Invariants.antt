use Rattle.std.proofs.Common.{◌≡◌, map, take}
use Rattle.std.specs.List.{flat_map}
use Rattle.sdf_plan.specs.ClassTable.Names.{queue_region}
use Rattle.sdf_plan.specs.ClassTable.Shown.{queue_shown}
use Rattle.sdf_check.specs.Lookups.{names_shown}
use Rattle.sdf_check.proofs.keys.regions.Given as goal

abbrev pub invariant-loop-queue : goal.invariant-loop-queue
invariant-loop-queue l = names_shown l.names.items ≡ flat_map queue_region (map queue_shown (take l.queue-index l.element.queues))

use Rattle.std.proofs.Common.{◌≡◌, map, take}
use Rattle.serial_virt.specs.Sending.{new_intake}
use Rattle.serial_virt.proofs.tx.intakes.Given as goal

abbrev pub invariant-loop-queue : goal.invariant-loop-queue
invariant-loop-queue l = l.ends.items ≡ map new_intake (take l.queue-index l.queues)

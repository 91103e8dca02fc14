use Rattle.std.proofs.Common.{◌≡◌, map, take}
use Rattle.buffer_kit.specs.Virtualising.{new_intake}
use Rattle.net_switch.proofs.ends.intakes.Given as goal

abbrev pub invariant-loop-queue : goal.invariant-loop-queue
invariant-loop-queue l = l.ends.items ≡ map new_intake (take l.queue-index l.queues)

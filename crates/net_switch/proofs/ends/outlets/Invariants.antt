use Rattle.std.proofs.Common.{◌≡◌, map, take}
use Rattle.buffer_kit.specs.Virtualising.{new_outlet}
use Rattle.net_switch.proofs.ends.outlets.Given as goal

abbrev pub invariant-loop-queue : goal.invariant-loop-queue
invariant-loop-queue l = l.ends.items ≡ map new_outlet (take l.queue-index l.queues)

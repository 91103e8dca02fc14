use Rattle.std.proofs.Common.{◌≡◌, ◌≤◌, ◌*◌, take}
use Rattle.plain_wires.specs.Pages.{pages_in}
use Rattle.plain_wires.proofs.world.pages_in.Given as goal

abbrev pub invariant-loop-queue : goal.invariant-loop-queue
invariant-loop-queue l = (l.count ≡ pages_in l.pool (take l.queue-index l.queues)) × (l.count ≤ l.queue-index * 65535)

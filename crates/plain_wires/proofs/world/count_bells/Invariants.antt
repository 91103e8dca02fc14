use Rattle.std.proofs.Common.{◌≡◌, take, length}
use Rattle.plain_wires.specs.Pendings.{IsCounted}
use Rattle.plain_wires.proofs.world.count_bells.Given as goal

abbrev pub invariant-loop-queue : goal.invariant-loop-queue
invariant-loop-queue l = record {
  many : length l.counts ≡ length l.initial.counts;
  counted : IsCounted l.counts (take l.queue-index l.queues);
}

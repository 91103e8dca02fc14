use Rattle.std.proofs.Common.{◌<◌, slice_index_or, length, sym, subst, ap, arith}
use Rattle.std.proofs.lemmas.List.Elements.{All-get_or}
use Rattle.plain_wires.specs.Pendings.{IsAmong}
use Rattle.plain_wires.proofs.Counts.{count_small, raised_small}
use Rattle.plain_wires.proofs.world.count_bells.Goals as goal

pub count_bell-requires-clause-few : goal.count_bell-requires-clause-few
count_bell-requires-clause-few c =
    let h = count_small c.loop-queue.counts c.args.queues.now c.loop-queue.queue-index c.queue-item.result.consumer c.loop-queue.invariant.counted c.requires.few in
    omega (arith, h)

pub count_bell-requires-in-loop-queue-clause-few : goal.count_bell-requires-in-loop-queue-clause-few
count_bell-requires-in-loop-queue-clause-few c =
    let among : IsAmong (length c.args.counts.now) c.queue-item.result = subst (IsAmong (length c.args.counts.now)) (sym c.queue-item.is) (All-get_or (IsAmong (length c.args.counts.now)) c.args.queues.now c.loop-queue.queue-index c.queue-item.result c.loop-queue-test.true c.requires.known) in
    let inside : c.queue-item.result.consumer < length c.loop-queue.counts = subst (λ n. c.queue-item.result.consumer < n) (sym c.loop-queue.invariant.many) among.1 in
    let h = count_small c.loop-queue.counts c.args.queues.now c.loop-queue.queue-index c.queue-item.result.producer c.loop-queue.invariant.counted c.requires.few in
    let one = raised_small c.loop-queue.counts c.queue-item.result.consumer c.queue-item.result.producer c.queue-item.result.bells.forward.pending inside in
    let is = ap (λ l. slice_index_or l c.queue-item.result.producer 0) c.count_bell.ensures in
    omega (arith, h, one, is)

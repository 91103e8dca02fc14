use Rattle.std.proofs.Common.{◌+◌, refl, sym, ap, ◌∙◌, arith}
use Rattle.wire_core.specs.declared.names.Op.TheVariants as Do
use Rattle.wire_core.specs.declared.names.BellState.{BellState}
use Rattle.wire_core.specs.Ends.{ringing_role}
use Rattle.wire_core.specs.Deeds.{plain_deed}
use Rattle.wire_core.proofs.Moving.{moves, happens_here}
use Rattle.plain_wires.proofs.Counts.{there_in, few, not_true, count_is, rung}
use Rattle.plain_wires.proofs.world.WorldWires.ring.Goals as goal

pub overflow_add-index_mut : goal.overflow_add-index_mut
overflow_add-index_mut c =
    let there = there_in c.self.inside.queues.items c.args.self.now (ringing_role c.args.side) c.args.q.0 c.self.view_is c.requires.owned in
    let same = count_is c.self.inside.pending.items c.self.inside.queues.items c.args.q.0 c.index_mut-queue.result.now c.self.invariant there c.index_mut-queue.ensures.value c.args.side c.waiting_actor-actor.result.0 c.index_mut.result.now c.waiting_actor-actor.ensures c.index_mut.ensures.value in
    let was = c.self.invariant.right c.waiting_actor-actor.result.0 in
    let small = few c.waiting_actor-actor.result.0 c.self.inside.queues.items in
    let short = c.self.inside.queues.small in
    omega (arith, same, was, small, short)

pub invariant_of-self : goal.invariant_of-self
invariant_of-self c =
    let there = there_in c.self.inside.queues.items c.args.self.now (ringing_role c.args.side) c.args.q.0 c.self.view_is c.requires.owned in
    let same = count_is c.self.inside.pending.items c.self.inside.queues.items c.args.q.0 c.index_mut-queue.result.now c.self.invariant there c.index_mut-queue.ensures.value c.args.side c.waiting_actor-actor.result.0 c.index_mut.result.now c.waiting_actor-actor.ensures c.index_mut.ensures.value in
    rung c.self.inside.pending.items c.self.inside.queues.items c.args.q.0 c.index_mut-queue.result.now c.self.invariant there c.index_mut-queue.ensures.value c.ring.new.self c.args.side c.waiting_actor-actor.result.0 (c.index_mut.result.now + 1) c.waiting_actor-actor.ensures (ap (λ n. n + 1) same) (sym (ap (λ (b : BellState). b.pending) c.bell-first.ensures) ∙ not_true c.bell-first.result.pending c.if-first.true) c.ring.ensures

pub returns-then-first-clause-ends : goal.returns-then-first-clause-ends
returns-then-first-clause-ends c = moves _ (plain_deed c.args.q (Do.Ring c.args.side)) _ (happens_here _ _ (plain_deed c.args.q (Do.Ring c.args.side)) _ _ c.self.view_is c.requires c.index_mut-queue.ensures.value refl refl refl c.ring.ensures)

pub returns-else-first-clause-ends : goal.returns-else-first-clause-ends
returns-else-first-clause-ends c = moves _ (plain_deed c.args.q (Do.Ring c.args.side)) _ (happens_here _ _ (plain_deed c.args.q (Do.Ring c.args.side)) _ _ c.self.view_is c.requires c.index_mut-queue.ensures.value refl refl refl c.ring.ensures)

use Rattle.std.proofs.Common.{◌≡◌, ◌-◌, ◌<◌, true, [], slice_index_or, refl, sym, ap, subst, ◌∙◌, arith}
use Rattle.wire_core.specs.declared.names.Op.TheVariants as Do
use Rattle.wire_core.specs.Ends.{waiting_role}
use Rattle.wire_core.specs.Deeds.{answer_of, look_deed}
use Rattle.wire_core.specs.Queues.{bell_of, queue_after}
use Rattle.wire_core.proofs.Moving.{moves, happens_here}
use Rattle.plain_wires.proofs.Counts.{there_in, counts_some, count_is, woken}
use Rattle.plain_wires.proofs.world.WorldWires.wake.Goals as goal

pub overflow_sub-index_mut : goal.overflow_sub-index_mut
overflow_sub-index_mut c =
    let there = there_in c.self.inside.queues.items c.args.self.now (waiting_role c.args.side) c.args.q.0 c.self.view_is c.requires.owned in
    let same = count_is c.self.inside.pending.items c.self.inside.queues.items c.args.q.0 c.index_mut-queue.result.now c.self.invariant there c.index_mut-queue.ensures.value c.args.side c.waiting_actor-actor.result.0 c.index_mut.result.now c.waiting_actor-actor.ensures c.index_mut.ensures.value in
    let is : (bell_of c.index_mut-queue.result.now.bells c.args.side).pending ≡ true = sym c.wake-woken.ensures.now ∙ c.if-woken.true in
    let some : 0 < slice_index_or c.self.inside.pending.items c.waiting_actor-actor.result.0 0 = subst (λ a. 0 < slice_index_or c.self.inside.pending.items a 0) (sym c.waiting_actor-actor.ensures) (counts_some c.self.inside.pending.items c.self.inside.queues.items c.args.q.0 c.index_mut-queue.result.now c.self.invariant there c.index_mut-queue.ensures.value c.args.side is) in
    omega (arith, same, some)

pub invariant_of-self : goal.invariant_of-self
invariant_of-self c =
    let there = there_in c.self.inside.queues.items c.args.self.now (waiting_role c.args.side) c.args.q.0 c.self.view_is c.requires.owned in
    let same = count_is c.self.inside.pending.items c.self.inside.queues.items c.args.q.0 c.index_mut-queue.result.now c.self.invariant there c.index_mut-queue.ensures.value c.args.side c.waiting_actor-actor.result.0 c.index_mut.result.now c.waiting_actor-actor.ensures c.index_mut.ensures.value in
    let is : (bell_of c.index_mut-queue.result.now.bells c.args.side).pending ≡ true = sym c.wake-woken.ensures.now ∙ c.if-woken.true in
    let some : 0 < slice_index_or c.self.inside.pending.items c.waiting_actor-actor.result.0 0 = subst (λ a. 0 < slice_index_or c.self.inside.pending.items a 0) (sym c.waiting_actor-actor.ensures) (counts_some c.self.inside.pending.items c.self.inside.queues.items c.args.q.0 c.index_mut-queue.result.now c.self.invariant there c.index_mut-queue.ensures.value c.args.side is) in
    woken c.self.inside.pending.items c.self.inside.queues.items c.args.q.0 c.index_mut-queue.result.now c.self.invariant there c.index_mut-queue.ensures.value c.wake-woken.new.self c.args.side c.waiting_actor-actor.result.0 (c.index_mut.result.now - 1) c.waiting_actor-actor.ensures (omega (arith, same, some)) is (c.wake-woken.ensures.after ∙ ap (λ b. queue_after c.index_mut-queue.result.now (Do.Wake c.args.side) (answer_of b) []) c.if-woken.true)

pub returns-then-woken-clause-ends : goal.returns-then-woken-clause-ends
returns-then-woken-clause-ends c = moves _ (look_deed c.args.q (Do.Wake c.args.side) c.wake-woken.result) _ (happens_here _ _ (look_deed c.args.q (Do.Wake c.args.side) c.wake-woken.result) _ _ c.self.view_is c.requires c.index_mut-queue.ensures.value (ap answer_of c.wake-woken.ensures.now) refl refl c.wake-woken.ensures.after)

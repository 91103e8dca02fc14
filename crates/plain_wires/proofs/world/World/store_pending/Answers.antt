use Rattle.std.proofs.Common.{◌≡◌, ◌<◌, ◌≤◌, ◌+◌, ◌-◌, Bool, true, false, refl, length, sym, ap, subst, arith, slice_index_or}
use Rattle.wire_core.specs.declared.names.BellState.{BellState}
use Rattle.wire_core.specs.Bells.{bit}
use Rattle.wire_core.specs.Queues.{bell_of}
use Rattle.plain_wires.proofs.Counts.{few, count_is, counts_some, stored}
use Rattle.plain_wires.proofs.world.World.store_pending.Goals as goal

no_more : (b : Bool) (n : _) → (b ≡ true → 0 < n) → bit b ≤ n
no_more true n h = omega (arith, h refl)
no_more false n h = omega arith

pub overflow_add-count : goal.overflow_add-count
overflow_add-count c =
    let there : c.args.q.0 < length c.self.inside.queues.items = subst (λ w. c.args.q.0 < length w) (sym c.self.view_is) c.requires.there in
    let same = count_is c.self.inside.pending.items c.self.inside.queues.items c.args.q.0 c.index_mut-queue.result.now c.self.invariant there c.index_mut-queue.ensures.value c.args.side c.waiting_actor-actor.result.0 c.index.result.now c.waiting_actor-actor.ensures c.index.ensures in
    let was = c.self.invariant.right c.waiting_actor-actor.result.0 in
    let small = few c.waiting_actor-actor.result.0 c.self.inside.queues.items in
    let short = c.self.inside.queues.small in
    omega (arith, same, was, small, short, c.bit_of.ensures.few)

pub overflow_sub-count : goal.overflow_sub-count
overflow_sub-count c =
    let there : c.args.q.0 < length c.self.inside.queues.items = subst (λ w. c.args.q.0 < length w) (sym c.self.view_is) c.requires.there in
    let same = count_is c.self.inside.pending.items c.self.inside.queues.items c.args.q.0 c.index_mut-queue.result.now c.self.invariant there c.index_mut-queue.ensures.value c.args.side c.waiting_actor-actor.result.0 c.index.result.now c.waiting_actor-actor.ensures c.index.ensures in
    let some : (bell_of c.index_mut-queue.result.now.bells c.args.side).pending ≡ true → 0 < c.index.result.now = (λ h. let s : 0 < slice_index_or c.self.inside.pending.items c.waiting_actor-actor.result.0 0 = subst (λ a. 0 < slice_index_or c.self.inside.pending.items a 0) (sym c.waiting_actor-actor.ensures) (counts_some c.self.inside.pending.items c.self.inside.queues.items c.args.q.0 c.index_mut-queue.result.now c.self.invariant there c.index_mut-queue.ensures.value c.args.side h) in omega (arith, same, s)) in
    let less = no_more (bell_of c.index_mut-queue.result.now.bells c.args.side).pending c.index.result.now some in
    let is = ap (λ (b : BellState). bit b.pending) c.bell-was.ensures in
    omega (arith, c.bit_of-2.ensures.bit, is, less)

pub invariant_of-self : goal.invariant_of-self
invariant_of-self c =
    let there : c.args.q.0 < length c.self.inside.queues.items = subst (λ w. c.args.q.0 < length w) (sym c.self.view_is) c.requires.there in
    let same = count_is c.self.inside.pending.items c.self.inside.queues.items c.args.q.0 c.index_mut-queue.result.now c.self.invariant there c.index_mut-queue.ensures.value c.args.side c.waiting_actor-actor.result.0 c.index.result.now c.waiting_actor-actor.ensures c.index.ensures in
    let some : (bell_of c.index_mut-queue.result.now.bells c.args.side).pending ≡ true → 0 < c.index.result.now = (λ h. let s : 0 < slice_index_or c.self.inside.pending.items c.waiting_actor-actor.result.0 0 = subst (λ a. 0 < slice_index_or c.self.inside.pending.items a 0) (sym c.waiting_actor-actor.ensures) (counts_some c.self.inside.pending.items c.self.inside.queues.items c.args.q.0 c.index_mut-queue.result.now c.self.invariant there c.index_mut-queue.ensures.value c.args.side h) in omega (arith, same, s)) in
    let less = no_more (bell_of c.index_mut-queue.result.now.bells c.args.side).pending c.index.result.now some in
    let is = ap (λ (b : BellState). bit b.pending) c.bell-was.ensures in
    stored c.self.inside.pending.items c.self.inside.queues.items c.args.q.0 c.index_mut-queue.result.now c.self.invariant there c.index_mut-queue.ensures.value c.store.new.self c.args.word c.args.side c.args.value c.waiting_actor-actor.result.0 (c.index.result.now + c.bit_of.result - c.bit_of-2.result) c.requires.word c.waiting_actor-actor.ensures
    (omega (arith, same, c.bit_of.ensures.bit, c.bit_of-2.ensures.bit, is, less)) c.store.ensures

use Rattle.std.proofs.Common.{true, ℕ, ◌≡◌, ◌+◌, ◌%◌, ◌∙◌, length, ap, sym}
use mathlib.Core.Option.{none}
use Rattle.atomic_table.specs.Table.{step}
use Rattle.spsc_queue.specs.Steps.{slots_held, room_guard_read}
use Rattle.spsc_queue.proofs.Calls.{slot_is, slot_below, guard_below, roomed_guard}
use Rattle.spsc_queue.proofs.Views.{as_producer, room_guard_allowed}
use Rattle.spsc_queue.proofs.producer.Producer.room_guard.Goals as goal

pub load-guard-requires : goal.load-guard-requires
load-guard-requires c = let me = c.self.inside.seat.me in let kind = c.ring.inside.table.shared.key.kind in let wild = c.ring.inside.table.shared.key.wild in let n = c.ring.inside.table.shared.table_id.slots in
    let own : c.self.inside.seat.table_id ≡ c.ring.inside.table.shared.table_id = ap (λ e. e.ring) c.self.view_is ∙ (c.requires.own ∙ sym (ap (λ e. e.id) c.ring.view_is)) in
    let sort : me.0.producer.wild ≡ true = ap (λ e. e.knows.wild) c.self.view_is ∙ c.requires.sort in (
      own,
      guard_below c.ring.inside.table.shared.table_id.words c.ring.inside.capacity c.slot_of-place.result (ap (λ z. z.words) (sym own) ∙ (c.self.invariant.guards (c.self.invariant.sort ∙ sort) ∙ (ap (λ z. 36 + z.slots) own ∙ ap (λ (z : ℕ). 36 + z) c.ring.invariant.slots))) (slot_below c.self.inside.tail c.ring.inside.capacity c.slot_of-place.result c.slot_of-place.ensures c.ring.invariant.some_place),
      as_producer wild kind n c.self.inside.seat.id me true (36 + c.slot_of-place.result) (λ n. n) (room_guard_read (step n (36 + c.slot_of-place.result) 0 0 none) me) sort c.self.invariant.produces
          (room_guard_allowed kind n c.self.inside.seat.id me (36 + c.slot_of-place.result) (ap (λ (z : ℕ). 36 + z) (slot_is c.ring.inside.table.shared.table_id.slots (length me.0.producer.entries) c.self.inside.tail c.ring.inside.capacity c.slot_of-place.result c.self.invariant.index c.slot_of-place.ensures c.ring.invariant.slots c.ring.invariant.divides)) c.self.invariant.produces c.self.invariant.consumes
          (c.self.invariant.holding ∙ ap (λ z. slots_held me.0.producer.grant (length me.0.producer.entries % z.slots)) (ap (λ e. e.ring) c.self.view_is ∙ (c.requires.own ∙ sym (ap (λ e. e.id) c.ring.view_is))))),
    )

pub returns-clause-did : goal.returns-clause-did
returns-clause-did c = roomed_guard c.ring.inside.table.shared.table_id.slots c.args.self.now.ring.slots c.slot_of-place.result c.self.inside.seat.me.0.producer c.args.self.now.knows c.load-guard.new.seat.me.0.producer c.load-guard.result (ap (λ e. e.knows) c.self.view_is)
    (slot_is c.ring.inside.table.shared.table_id.slots (length c.self.inside.seat.me.0.producer.entries) c.self.inside.tail c.ring.inside.capacity c.slot_of-place.result c.self.invariant.index c.slot_of-place.ensures c.ring.invariant.slots c.ring.invariant.divides)
    (ap (λ e. e.id.slots) c.ring.view_is ∙ sym (ap (λ z. z.slots) c.requires.own)) (ap (λ v. v.producer) c.load-guard.ensures.2.0)

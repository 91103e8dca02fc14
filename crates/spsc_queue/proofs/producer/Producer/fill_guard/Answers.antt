use Rattle.std.proofs.Common.{is_some, rules, true, ℕ, ◌%◌, ◌+◌, ◌-◌, ◌≡◌, ◌∙◌, ◌∷◌, [], List, length, ap, sym, subst, Some, None}
use mathlib.Core.Option.{none}
use Rattle.atomic_table.specs.Table.{rest, Allows, step}
use Rattle.wire_core.specs.Deeds.{Cargo}
use Rattle.spsc_queue.specs.declared.view.View.{View}
use Rattle.spsc_queue.specs.Rule.{Slot, RingHolds}
use Rattle.spsc_queue.specs.Steps.{Seated, put_done, sent_one}
use Rattle.spsc_queue.proofs.Calls.{slot_is, slot_below, guard_below, guard_here}
use Rattle.spsc_queue.proofs.Views.{as_producer, fill_allowed}
use Rattle.spsc_queue.proofs.Calls.{granted_room, held_here, filled_here, takes_first, put_after}
use Rattle.spsc_queue.proofs.producer.Producer.fill_guard.Goals as goal

pub fill-requires : goal.fill-requires
fill-requires g c = let me = c.self.inside.seat.me in (
  search rules,
  (None, takes_first _ _ _ (held_here c.self.inside.seat.table_id.slots (length me.0.producer.entries) c.self.inside.tail c.ring.inside.capacity c.slot_of-place.result me.0.producer.grant None me.1 c.self.invariant.holding (granted_room _ (ap (λ e. is_some e.knows.grant) c.self.view_is ∙ c.requires.condition.1) c.self.invariant.granted) c.self.invariant.index c.slot_of-place.ensures (search rules) c.ring.invariant.divides)),
)

pub store-requires : goal.store-requires
store-requires g c = let me = c.self.inside.seat.me in let kind = c.ring.inside.table.shared.key.kind in let wild = c.ring.inside.table.shared.key.wild in let n = c.ring.inside.table.shared.table_id.slots in let id = c.fill.new.seat.id in let x : Cargo = (c.args.item, c.args.body) in let w : ℕ = 36 + c.slot_of-place.result in
    let own : c.self.inside.seat.table_id ≡ c.ring.inside.table.shared.table_id = ap (λ e. e.ring) c.self.view_is ∙ (c.requires.own ∙ sym (ap (λ e. e.id) c.ring.view_is)) in
    let sort : me.0.producer.wild ≡ true = ap (λ e. e.knows.wild) c.self.view_is ∙ c.requires.sort in
    let l : List (ℕ × Slot) = (c.slot_of-place.result, Some x) ∷ rest me.1 in (
      search rules,
      guard_below c.ring.inside.table.shared.table_id.words c.ring.inside.capacity c.slot_of-place.result (ap (λ z. z.words) (sym own) ∙ (c.self.invariant.guards (c.self.invariant.sort ∙ sort) ∙ (ap (λ z. 36 + z.slots) own ∙ ap (λ (z : ℕ). 36 + z) c.ring.invariant.slots))) (slot_below c.self.inside.tail c.ring.inside.capacity c.slot_of-place.result c.slot_of-place.ensures c.ring.invariant.some_place),
      subst (λ (z : Seated). Allows (RingHolds wild kind) n id z w (λ _. 1) (λ _ m. put_done g.C.Clock.time (step n w 1 0 none) z 1 m)) (sym c.fill.ensures.2)
          (as_producer wild kind n id (me.0, l) true w (λ _. 1) (λ _ m. put_done g.C.Clock.time (step n w 1 0 none) (me.0, l) 1 m) sort c.self.invariant.produces
          (fill_allowed kind n id (me.0, l) x g.C.Clock.time w (ap (λ (z : ℕ). 36 + z) (slot_is n (length me.0.producer.entries) c.self.inside.tail c.ring.inside.capacity c.slot_of-place.result c.self.invariant.index c.slot_of-place.ensures c.ring.invariant.slots c.ring.invariant.divides)) c.self.invariant.produces c.self.invariant.consumes (c.requires.kind ∙ sym (ap (λ e. e.knows.kind) c.self.view_is)) (granted_room _ (ap (λ e. is_some e.knows.grant) c.self.view_is ∙ c.requires.condition.1) c.self.invariant.granted)
          (subst (λ (z : ℕ). l ≡ (length me.0.producer.entries % z, Some x) ∷ []) (ap (λ z. z.slots) own)
          (filled_here c.self.inside.seat.table_id.slots (length me.0.producer.entries) c.self.inside.tail c.ring.inside.capacity c.slot_of-place.result me.0.producer.grant None (Some x) me.1 c.self.invariant.holding (granted_room _ (ap (λ e. is_some e.knows.grant) c.self.view_is ∙ c.requires.condition.1) c.self.invariant.granted) c.self.invariant.index c.slot_of-place.ensures (search rules) c.ring.invariant.divides)))),
    )

pub invariant_of-self : goal.invariant_of-self
invariant_of-self g c = let me = c.self.inside.seat.me in let x : Cargo = (c.args.item, c.args.body) in let now = c.fill.ensures.2 in
    let l : List (ℕ × Slot) = (c.slot_of-place.result, Some x) ∷ rest me.1 in
    let full : l ≡ (length me.0.producer.entries % c.self.inside.seat.table_id.slots, Some x) ∷ [] = filled_here c.self.inside.seat.table_id.slots (length me.0.producer.entries) c.self.inside.tail c.ring.inside.capacity c.slot_of-place.result me.0.producer.grant None (Some x) me.1 c.self.invariant.holding (granted_room _ (ap (λ e. is_some e.knows.grant) c.self.view_is ∙ c.requires.condition.1) c.self.invariant.granted) c.self.invariant.index c.slot_of-place.ensures (search rules) c.ring.invariant.divides in
    let did = c.store.ensures.2 x (ap (λ (m : Seated). m.1) now ∙ (full ∙ (ap (λ (z : ℕ). (length me.0.producer.entries % z, Some x) ∷ []) (ap (λ z. z.slots) (ap (λ e. e.ring) c.self.view_is ∙ (c.requires.own ∙ sym (ap (λ e. e.id) c.ring.view_is)))) ∙ ap (λ (m : Seated). (length m.0.producer.entries % c.ring.inside.table.shared.table_id.slots, Some x) ∷ []) (sym now)))) in
    let after = put_after me c.fill.new.seat.me c.store.new.seat.me c.self.inside.tail x g.C.Clock.time (36 + c.slot_of-place.result) 1 (length c.store.new.seat.me.0.producer.entries % c.store.new.seat.table_id.slots) (ap (λ (m : Seated). m.0) now) did (c.self.invariant.produces, c.self.invariant.consumes) c.self.invariant.index in
    record { produces = after.0.0; consumes = after.0.1; index = after.1; holding = after.2; ahead = c.saturating_sub-ahead.ensures ∙ (ap (λ (z : ℕ). z - 1) c.self.invariant.ahead ∙ sym (ap (λ (v : View). v.producer.ahead) did.0 ∙ ap (λ (m : Seated). m.0.producer.ahead - 1) now)); waiter = c.self.invariant.waiter ∙ sym (ap (λ (v : View). v.producer.waiter) did.0 ∙ ap (λ (m : Seated). m.0.producer.waiter) now); ringer = sym (ap (λ (v : View). v.producer.ringer) did.0); granted = after.3; sort = c.self.invariant.sort ∙ sym (ap (λ (v : View). v.producer.wild) did.0 ∙ ap (λ (m : Seated). m.0.producer.wild) now); guards = λ is. ap (λ z. z.words) (c.store.ensures.0 ∙ c.fill.ensures.0) ∙ (c.self.invariant.guards is ∙ ap (λ z. 36 + z.slots) (sym (c.store.ensures.0 ∙ c.fill.ensures.0))) }

pub returns-clause-did : goal.returns-clause-did
returns-clause-did g c = let me = c.self.inside.seat.me in let x : Cargo = (c.args.item, c.args.body) in let now = c.fill.ensures.2 in let n = c.ring.inside.table.shared.table_id.slots in let w : ℕ = 36 + c.slot_of-place.result in let t : ℕ = g.C.Clock.time in
    let full : (c.slot_of-place.result, Some x) ∷ rest me.1 ≡ (length me.0.producer.entries % c.self.inside.seat.table_id.slots, Some x) ∷ [] = filled_here c.self.inside.seat.table_id.slots (length me.0.producer.entries) c.self.inside.tail c.ring.inside.capacity c.slot_of-place.result me.0.producer.grant None (Some x) me.1 c.self.invariant.holding (granted_room _ (ap (λ e. is_some e.knows.grant) c.self.view_is ∙ c.requires.condition.1) c.self.invariant.granted) c.self.invariant.index c.slot_of-place.ensures (search rules) c.ring.invariant.divides in
    let did = c.store.ensures.2 x (ap (λ (m : Seated). m.1) now ∙ (full ∙ (ap (λ (z : ℕ). (length me.0.producer.entries % z, Some x) ∷ []) (ap (λ z. z.slots) (ap (λ e. e.ring) c.self.view_is ∙ (c.requires.own ∙ sym (ap (λ e. e.id) c.ring.view_is)))) ∙ ap (λ (m : Seated). (length m.0.producer.entries % n, Some x) ∷ []) (sym now)))) in
    let same = ap (λ e. e.knows) c.self.view_is in
    let place = guard_here n c.args.self.now.ring.slots c.slot_of-place.result me.0.producer c.args.self.now.knows same (slot_is n (length me.0.producer.entries) c.self.inside.tail c.ring.inside.capacity c.slot_of-place.result c.self.invariant.index c.slot_of-place.ensures c.ring.invariant.slots c.ring.invariant.divides) (ap (λ e. e.id.slots) c.ring.view_is ∙ sym (ap (λ z. z.slots) c.requires.own)) in
    ap (λ (v : View). v.producer) did.0 ∙ (ap (λ (m : Seated). sent_one x t w 1 m.0.producer) now ∙ (λ i. sent_one x t (place i) 1 (same i)))

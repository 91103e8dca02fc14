use Rattle.std.proofs.Common.{is_some, rules, true, ℕ, ◌%◌, ◌+◌, ◌-◌, ◌≡◌, ◌∙◌, ◌∷◌, [], List, length, ap, sym, subst, Some, None}
use mathlib.Core.Option.{none}
use Rattle.atomic_table.specs.Table.{rest, Allows, step}
use Rattle.wire_core.specs.Deeds.{Cargo}
use Rattle.spsc_queue.specs.declared.view.View.{View}
use Rattle.spsc_queue.specs.Rule.{Slot, RingHolds}
use Rattle.spsc_queue.specs.Steps.{Seated, take_done, took_one}
use Rattle.spsc_queue.proofs.Calls.{slot_is, slot_below, guard_below, guard_here}
use Rattle.spsc_queue.proofs.Views.{as_consumer, empty_allowed}
use Rattle.spsc_queue.proofs.Calls.{held_here, filled_here, takes_first, take_after, granted_some, same_first, ungranted}
use Rattle.spsc_queue.proofs.consumer.Consumer.empty_guard.Goals as goal

pub exchange-old-requires : goal.exchange-old-requires
exchange-old-requires c = let me = c.self.inside.seat.me in let g = granted_some me.0.consumer.grant (ap (λ e. is_some e.knows.grant) c.self.view_is ∙ c.requires.condition.1) in (
  search rules,
  (g.0, takes_first _ _ _ (held_here c.self.inside.seat.table_id.slots (length me.0.consumer.entries) c.self.inside.head c.ring.inside.capacity c.slot_of-place.result me.0.consumer.grant g.0 me.1 c.self.invariant.holding g.1 c.self.invariant.index c.slot_of-place.ensures (search rules) c.ring.invariant.divides)),
)

pub store-requires : goal.store-requires
store-requires c = let me = c.self.inside.seat.me in let kind = c.ring.inside.table.shared.key.kind in let wild = c.ring.inside.table.shared.key.wild in let n = c.ring.inside.table.shared.table_id.slots in let id = c.exchange-old.new.seat.id in let w : ℕ = 36 + c.slot_of-place.result in
    let x : Cargo = c.in-Some.entry in let g = granted_some me.0.consumer.grant (ap (λ e. is_some e.knows.grant) c.self.view_is ∙ c.requires.condition.1) in
    let was : me.1 ≡ (c.slot_of-place.result, g.0) ∷ [] = held_here c.self.inside.seat.table_id.slots (length me.0.consumer.entries) c.self.inside.head c.ring.inside.capacity c.slot_of-place.result me.0.consumer.grant g.0 me.1 c.self.invariant.holding g.1 c.self.invariant.index c.slot_of-place.ensures (search rules) c.ring.invariant.divides in
    let gr : me.0.consumer.grant ≡ Some (Some x) = g.1 ∙ ap (λ (z : Slot). Some z) (same_first me.1 c.slot_of-place.result g.0 (Some x) was c.in-Some.ensures.2) in
    let own : c.self.inside.seat.table_id ≡ c.ring.inside.table.shared.table_id = ap (λ e. e.ring) c.self.view_is ∙ (c.requires.own ∙ sym (ap (λ e. e.id) c.ring.view_is)) in
    let sort : me.0.consumer.wild ≡ true = ap (λ e. e.knows.wild) c.self.view_is ∙ c.requires.sort in
    let l : List (ℕ × Slot) = (c.slot_of-place.result, None) ∷ rest me.1 in (
      search rules,
      guard_below c.ring.inside.table.shared.table_id.words c.ring.inside.capacity c.slot_of-place.result (ap (λ z. z.words) (sym own) ∙ (c.self.invariant.guards (c.self.invariant.sort ∙ sort) ∙ (ap (λ z. 36 + z.slots) own ∙ ap (λ (z : ℕ). 36 + z) c.ring.invariant.slots))) (slot_below c.self.inside.head c.ring.inside.capacity c.slot_of-place.result c.slot_of-place.ensures c.ring.invariant.some_place),
      subst (λ (z : Seated). Allows (RingHolds wild kind) n id z w (λ _. 0) (λ _ m. take_done (step n w 0 0 none) z 0 m)) (sym c.exchange-old.ensures.3)
          (as_consumer wild kind n id (me.0, l) true w (λ _. 0) (λ _ m. take_done (step n w 0 0 none) (me.0, l) 0 m) sort c.self.invariant.consumes
          (empty_allowed kind n id (me.0, l) x w (ap (λ (z : ℕ). 36 + z) (slot_is n (length me.0.consumer.entries) c.self.inside.head c.ring.inside.capacity c.slot_of-place.result c.self.invariant.index c.slot_of-place.ensures c.ring.invariant.slots c.ring.invariant.divides)) c.self.invariant.consumes c.self.invariant.produces gr
          (subst (λ (z : ℕ). l ≡ (length me.0.consumer.entries % z, None) ∷ []) (ap (λ z. z.slots) own)
          (filled_here c.self.inside.seat.table_id.slots (length me.0.consumer.entries) c.self.inside.head c.ring.inside.capacity c.slot_of-place.result me.0.consumer.grant g.0 None me.1 c.self.invariant.holding g.1 c.self.invariant.index c.slot_of-place.ensures (search rules) c.ring.invariant.divides)))),
    )

pub invariant_of-self : goal.invariant_of-self
invariant_of-self c = let me = c.self.inside.seat.me in let now = c.exchange-old.ensures.3 in
    let x : Cargo = c.in-Some.entry in let g = granted_some me.0.consumer.grant (ap (λ e. is_some e.knows.grant) c.self.view_is ∙ c.requires.condition.1) in
    let was : me.1 ≡ (c.slot_of-place.result, g.0) ∷ [] = held_here c.self.inside.seat.table_id.slots (length me.0.consumer.entries) c.self.inside.head c.ring.inside.capacity c.slot_of-place.result me.0.consumer.grant g.0 me.1 c.self.invariant.holding g.1 c.self.invariant.index c.slot_of-place.ensures (search rules) c.ring.invariant.divides in
    let gr : me.0.consumer.grant ≡ Some (Some x) = g.1 ∙ ap (λ (z : Slot). Some z) (same_first me.1 c.slot_of-place.result g.0 (Some x) was c.in-Some.ensures.2) in
    let did = c.store.ensures.2 x (ap (λ (m : Seated). m.0.consumer.grant) now ∙ gr) in
    let after = take_after me c.exchange-old.new.seat.me c.store.new.seat.me c.self.inside.head x did.0 (36 + c.slot_of-place.result) 0 (length c.store.new.seat.me.0.consumer.entries % c.store.new.seat.table_id.slots) (ap (λ (m : Seated). m.0) now) (did.1, did.2) (c.self.invariant.consumes, c.self.invariant.produces) c.self.invariant.index in
    record { consumes = after.0.0; produces = after.0.1; index = after.1; holding = after.2; ahead = c.saturating_sub-ahead.ensures ∙ (ap (λ (z : ℕ). z - 1) c.self.invariant.ahead ∙ sym (ap (λ (v : View). v.consumer.ahead) did.1 ∙ ap (λ (m : Seated). m.0.consumer.ahead - 1) now)); waiter = c.self.invariant.waiter ∙ sym (ap (λ (v : View). v.consumer.waiter) did.1 ∙ ap (λ (m : Seated). m.0.consumer.waiter) now); ringer = sym (ap (λ (v : View). v.consumer.ringer) did.1); granted = ungranted _ _ after.3; sort = c.self.invariant.sort ∙ sym (ap (λ (v : View). v.consumer.wild) did.1 ∙ ap (λ (m : Seated). m.0.consumer.wild) now); guards = λ is. ap (λ z. z.words) (c.store.ensures.0 ∙ c.exchange-old.ensures.0) ∙ (c.self.invariant.guards is ∙ ap (λ z. 36 + z.slots) (sym (c.store.ensures.0 ∙ c.exchange-old.ensures.0))) }

pub returns-clause-was : goal.returns-clause-was
returns-clause-was c = let me = c.self.inside.seat.me in
    let x : Cargo = c.in-Some.entry in let g = granted_some me.0.consumer.grant (ap (λ e. is_some e.knows.grant) c.self.view_is ∙ c.requires.condition.1) in
    let was : me.1 ≡ (c.slot_of-place.result, g.0) ∷ [] = held_here c.self.inside.seat.table_id.slots (length me.0.consumer.entries) c.self.inside.head c.ring.inside.capacity c.slot_of-place.result me.0.consumer.grant g.0 me.1 c.self.invariant.holding g.1 c.self.invariant.index c.slot_of-place.ensures (search rules) c.ring.invariant.divides in
    let gr : me.0.consumer.grant ≡ Some (Some x) = g.1 ∙ ap (λ (z : Slot). Some z) (same_first me.1 c.slot_of-place.result g.0 (Some x) was c.in-Some.ensures.2) in
    sym (ap (λ e. e.knows.grant) c.self.view_is) ∙ gr

pub returns-clause-did : goal.returns-clause-did
returns-clause-did c = let me = c.self.inside.seat.me in let now = c.exchange-old.ensures.3 in let n = c.ring.inside.table.shared.table_id.slots in let w : ℕ = 36 + c.slot_of-place.result in
    let x : Cargo = c.in-Some.entry in let g = granted_some me.0.consumer.grant (ap (λ e. is_some e.knows.grant) c.self.view_is ∙ c.requires.condition.1) in
    let was : me.1 ≡ (c.slot_of-place.result, g.0) ∷ [] = held_here c.self.inside.seat.table_id.slots (length me.0.consumer.entries) c.self.inside.head c.ring.inside.capacity c.slot_of-place.result me.0.consumer.grant g.0 me.1 c.self.invariant.holding g.1 c.self.invariant.index c.slot_of-place.ensures (search rules) c.ring.invariant.divides in
    let gr : me.0.consumer.grant ≡ Some (Some x) = g.1 ∙ ap (λ (z : Slot). Some z) (same_first me.1 c.slot_of-place.result g.0 (Some x) was c.in-Some.ensures.2) in
    let did = c.store.ensures.2 x (ap (λ (m : Seated). m.0.consumer.grant) now ∙ gr) in let t : ℕ = did.0 in let same = ap (λ e. e.knows) c.self.view_is in
    let place = guard_here n c.args.self.now.ring.slots c.slot_of-place.result me.0.consumer c.args.self.now.knows same (slot_is n (length me.0.consumer.entries) c.self.inside.head c.ring.inside.capacity c.slot_of-place.result c.self.invariant.index c.slot_of-place.ensures c.ring.invariant.slots c.ring.invariant.divides) (ap (λ e. e.id.slots) c.ring.view_is ∙ sym (ap (λ z. z.slots) c.requires.own)) in
    (t, ap (λ (v : View). v.consumer) did.1 ∙ (ap (λ (m : Seated). took_one x t w 0 m.0.consumer) now ∙ (λ i. took_one x t (place i) 0 (same i))))

-- The ends of a switch go on to agree where one of them moved.
use Rattle.std.proofs.Common.{◌≡◌, ◌↔◌, ℕ, false, true, Option, Some, None, IsSome, is_some, slice_get, length, inl, inr, refl, sym, ap, ◌∙◌, subst}
use Rattle.std.proofs.lemmas.Bool.{cases_Bool}
use Rattle.wire_core.specs.declared.names.QueueId.{QueueId}
use Rattle.wire_core.specs.declared.names.Event.{Event}
use Rattle.wire_core.specs.declared.names.Op.{Op}
use Rattle.wire_core.specs.declared.names.Op.TheVariants as Do
use Rattle.wire_core.specs.Deeds.{Cargo}
use Rattle.wire_core.specs.Ends.{Role, Consumer, Producer, End, Moves, role_of}
use Rattle.turn_kit.specs.Table.{Agrees}
use Rattle.turn_kit.specs.ManyEnds.{FitsIntakes, FitsOutlets, intake_queues, outlet_queues}
use Rattle.turn_kit.specs.declared.ends.Intake.{Intake}
use Rattle.turn_kit.specs.declared.ends.Outlet.{Outlet}
use Rattle.turn_kit.specs.declared.intakes.Intakes.{Intakes}
use Rattle.turn_kit.specs.declared.outlets.Outlets.{Outlets}
use Rattle.turn_kit.specs.declared.end_state.EndState.{EndState}
use Rattle.turn_kit.proofs.Offers.{get_map}
use Rattle.net_switch.specs.declared.ends.SwitchEnds.{SwitchEnds}
use Rattle.net_switch.specs.Ends.{FitsEnds, is_take, come_queues, back_queues, room_queues, copy_queues}

module _ (ends ends' : Role → ℕ → End) (e : Event) (moves : Moves ends e ends') where
  still : (r : Role) (n : ℕ) (s : EndState) → (r ≡ role_of e.op → n ≡ e.queue.0 → ⊥) → Agrees (ends r n) s → Agrees (ends' r n) s
  still r n s away h = subst (λ x. Agrees x s) (sym (moves.others r n away)) h

  intakes_still : (xs : Intakes) → ((k : ℕ) (q : QueueId) → slice_get (intake_queues xs) k ≡ Some q → Consumer ≡ role_of e.op → q.0 ≡ e.queue.0 → ⊥) → FitsIntakes ends xs → FitsIntakes ends' xs
  intakes_still xs away h = record {
    agrees = λ k i at. still Consumer i.queue.0 i.state (away k i.queue (get_map (λ (x : Intake). x.queue) xs.ends.items k i at)) (h.agrees k i at);
    apart = h.apart;
  }

  outlets_still : (xs : Outlets) → ((k : ℕ) (q : QueueId) → slice_get (outlet_queues xs) k ≡ Some q → Producer ≡ role_of e.op → q.0 ≡ e.queue.0 → ⊥) → FitsOutlets ends xs → FitsOutlets ends' xs
  outlets_still xs away h = record {
    agrees = λ k i at. still Producer i.queue.0 i.state (away k i.queue (get_map (λ (x : Outlet). x.queue) xs.ends.items k i at)) (h.agrees k i at);
    apart = h.apart;
  }

  not_producer : role_of e.op ≡ Consumer → Producer ≡ role_of e.op → ⊥
  not_producer c p = let no : Producer ≡ Consumer = p ∙ c in cc

  not_consumer : role_of e.op ≡ Producer → Consumer ≡ role_of e.op → ⊥
  not_consumer p c = let no : Consumer ≡ Producer = c ∙ p in cc

  module _ (v : SwitchEnds) (h : FitsEnds ends v) where
    -- an end where frames come moved
    pub come_moved : (xs : Intakes) (k : ℕ) → intake_queues xs ≡ come_queues v → role_of e.op ≡ Consumer → slice_get (come_queues v) k ≡ Some e.queue → FitsIntakes ends' xs → FitsEnds ends' (record v { come = xs })
    come_moved xs k same role on fits = record {
      come = fits;
      back = outlets_still v.back (λ j q at r n. not_producer role r) h.back;
      room = intakes_still v.room (λ j q at r n. h.inputs_apart k j e.queue q on at (sym n)) h.room;
      copy = outlets_still v.copy (λ j q at r n. not_producer role r) h.copy;
      come_net = λ j q at. moves.kinds Consumer q.0 ∙ h.come_net j q (ap (λ qs. slice_get qs j) (sym same) ∙ at);
      back_net = λ j q at. moves.kinds Producer q.0 ∙ h.back_net j q at;
      room_net = λ j q at. moves.kinds Consumer q.0 ∙ h.room_net j q at;
      copy_net = λ j q at. moves.kinds Producer q.0 ∙ h.copy_net j q at;
      inputs_apart = λ j i q r at to. h.inputs_apart j i q r (ap (λ qs. slice_get qs j) (sym same) ∙ at) to;
      outputs_apart = h.outputs_apart;
      back_many = h.back_many ∙ ap length (sym same);
      room_many = h.room_many ∙ ap length (sym same);
      copy_many = h.copy_many ∙ ap length (sym same);
      some = rw same h.some;
      few = rw same h.few;
    }

    -- an end where buffers go back moved
    pub back_moved : (xs : Outlets) (k : ℕ) → outlet_queues xs ≡ back_queues v → role_of e.op ≡ Producer → slice_get (back_queues v) k ≡ Some e.queue → FitsOutlets ends' xs → FitsEnds ends' (record v { back = xs })
    back_moved xs k same role on fits = record {
      come = intakes_still v.come (λ j q at r n. not_consumer role r) h.come;
      back = fits;
      room = intakes_still v.room (λ j q at r n. not_consumer role r) h.room;
      copy = outlets_still v.copy (λ j q at r n. h.outputs_apart k j e.queue q on at (sym n)) h.copy;
      come_net = λ j q at. moves.kinds Consumer q.0 ∙ h.come_net j q at;
      back_net = λ j q at. moves.kinds Producer q.0 ∙ h.back_net j q (ap (λ qs. slice_get qs j) (sym same) ∙ at);
      room_net = λ j q at. moves.kinds Consumer q.0 ∙ h.room_net j q at;
      copy_net = λ j q at. moves.kinds Producer q.0 ∙ h.copy_net j q at;
      inputs_apart = h.inputs_apart;
      outputs_apart = λ j i q r at to. h.outputs_apart j i q r (ap (λ qs. slice_get qs j) (sym same) ∙ at) to;
      back_many = ap length same ∙ h.back_many;
      room_many = h.room_many;
      copy_many = h.copy_many;
      some = h.some;
      few = h.few;
    }

    -- an end where buffers for copies come moved
    pub room_moved : (xs : Intakes) (k : ℕ) → intake_queues xs ≡ room_queues v → role_of e.op ≡ Consumer → slice_get (room_queues v) k ≡ Some e.queue → FitsIntakes ends' xs → FitsEnds ends' (record v { room = xs })
    room_moved xs k same role on fits = record {
      come = intakes_still v.come (λ j q at r n. h.inputs_apart j k q e.queue at on n) h.come;
      back = outlets_still v.back (λ j q at r n. not_producer role r) h.back;
      room = fits;
      copy = outlets_still v.copy (λ j q at r n. not_producer role r) h.copy;
      come_net = λ j q at. moves.kinds Consumer q.0 ∙ h.come_net j q at;
      back_net = λ j q at. moves.kinds Producer q.0 ∙ h.back_net j q at;
      room_net = λ j q at. moves.kinds Consumer q.0 ∙ h.room_net j q (ap (λ qs. slice_get qs j) (sym same) ∙ at);
      copy_net = λ j q at. moves.kinds Producer q.0 ∙ h.copy_net j q at;
      inputs_apart = λ j i q r at to. h.inputs_apart j i q r at (ap (λ qs. slice_get qs i) (sym same) ∙ to);
      outputs_apart = h.outputs_apart;
      back_many = h.back_many;
      room_many = ap length same ∙ h.room_many;
      copy_many = h.copy_many;
      some = h.some;
      few = h.few;
    }

    -- an end where copies go moved
    pub copy_moved : (xs : Outlets) (k : ℕ) → outlet_queues xs ≡ copy_queues v → role_of e.op ≡ Producer → slice_get (copy_queues v) k ≡ Some e.queue → FitsOutlets ends' xs → FitsEnds ends' (record v { copy = xs })
    copy_moved xs k same role on fits = record {
      come = intakes_still v.come (λ j q at r n. not_consumer role r) h.come;
      back = outlets_still v.back (λ j q at r n. h.outputs_apart j k q e.queue at on n) h.back;
      room = intakes_still v.room (λ j q at r n. not_consumer role r) h.room;
      copy = fits;
      come_net = λ j q at. moves.kinds Consumer q.0 ∙ h.come_net j q at;
      back_net = λ j q at. moves.kinds Producer q.0 ∙ h.back_net j q at;
      room_net = λ j q at. moves.kinds Consumer q.0 ∙ h.room_net j q at;
      copy_net = λ j q at. moves.kinds Producer q.0 ∙ h.copy_net j q (ap (λ qs. slice_get qs j) (sym same) ∙ at);
      inputs_apart = h.inputs_apart;
      outputs_apart = λ j i q r at to. h.outputs_apart j i q r at (ap (λ qs. slice_get qs i) (sym same) ∙ to);
      back_many = h.back_many;
      room_many = h.room_many;
      copy_many = ap length same ∙ h.copy_many;
      some = h.some;
      few = h.few;
    }

is_it : (o : Op) → is_take o ≡ true → o ≡ Do.Take
is_it Do.Take h = refl
is_it Do.Put h = cc
is_it Do.See h = cc
is_it Do.Room h = cc
is_it (Do.Ask s) h = cc
is_it (Do.Waive s) h = cc
is_it (Do.Wake s) h = cc
is_it (Do.Wanted s) h = cc
is_it (Do.Settle s) h = cc
is_it (Do.Ring s) h = cc
is_it (Do.Store w v) h = cc

-- a call took an entry just where one came
pub takes_told : (o : Op) (c : Option Cargo) → (IsSome c ↔ (o ≡ Do.Take)) → is_take o ≡ is_some c
takes_told o None h = elim (cases_Bool (is_take o)) [
  | inl is ↦ absurd (let bad = h.1 (is_it o is) in cc)
  | inr isnt ↦ isnt
]
takes_told o (Some c) h = ap is_take (h.0 refl)

-- a producing end takes nothing
pub takes_nothing : (o : Op) → role_of o ≡ Producer → is_take o ≡ false
takes_nothing Do.Take h = absurd (let bad : Consumer ≡ Producer = h in cc)
takes_nothing Do.Put h = refl
takes_nothing Do.See h = refl
takes_nothing Do.Room h = refl
takes_nothing (Do.Ask s) h = refl
takes_nothing (Do.Waive s) h = refl
takes_nothing (Do.Wake s) h = refl
takes_nothing (Do.Wanted s) h = refl
takes_nothing (Do.Settle s) h = refl
takes_nothing (Do.Ring s) h = refl
takes_nothing (Do.Store w v) h = refl

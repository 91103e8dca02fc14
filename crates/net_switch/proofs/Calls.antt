-- What the calls at a switch's ends leave of what it stands for.
use Rattle.std.proofs.Common.{◌≡◌, ◌⊎◌, ◌==◌, ◌&&◌, ◌+◌, ◌<◌, ℕ, zero, suc, Bool, true, false, not, cond, Option, Some, None, List, [], ◌∷◌, ◌++◌, length, slice_get, slice_set, slice_index_or, is_some, is_none, refl, sym, ap, ◌∙◌, inl, inr, arith, ne_eqb, subst}
use Rattle.std.specs.Option.{option_to_list}
use Rattle.std.proofs.lemmas.Bool.{and_parts}
use Rattle.std.proofs.lemmas.Option.{slice_get_read, slice_get_within}
use Rattle.std.proofs.lemmas.List.{append-nil}
use Rattle.cargo_core.specs.declared.item.Item.{Item}
use Rattle.wire_core.specs.declared.names.QueueId.{QueueId}
use Rattle.wire_core.specs.declared.names.Event.{Event}
use Rattle.wire_core.specs.declared.names.Op.TheVariants as Do
use Rattle.wire_core.specs.Deeds.{Deed, Cargo, put_of, given}
use Rattle.wire_core.specs.Lists.{Lists, Passed, with_deed, taken_by, put_by, if_there}
use Rattle.wire_core.specs.Ends.{Role, End}
use Rattle.buffer_kit.specs.Clients.{queue_at, is_so}
use Rattle.buffer_kit.proofs.ManyClients.{none_if, queue_there, queue_is, at_client, some_eq, so_there}
use Rattle.buffer_kit.proofs.Passing.{beside}
use Rattle.net_switch.specs.declared.switch_desk.slot.Slot.{Slot}
use Rattle.net_switch.specs.declared.switch_desk.desk.Desk.{Desk}
use Rattle.net_switch.specs.SwitchDesk.Desks.{IsDesk, Moved, WithSlot, is_copied, is_owing, has_copy}
use Rattle.net_switch.proofs.SwitchDesk.Places.{same_or_not}
use Rattle.net_switch.specs.declared.switch.NetSwitch.{NetSwitch}
use Rattle.net_switch.specs.declared.ends.SwitchEnds.{SwitchEnds}
use Rattle.net_switch.specs.Ends.{FitsEnds, SameEnds, is_take, come_queues, back_queues, room_queues, copy_queues}
use Rattle.net_switch.specs.Switching.{FitsSwitch, SwitchStandsFor, SameDesk}
use Rattle.net_switch.proofs.Takes.{takes}
use Rattle.net_switch.proofs.Steps.{goes_on_off, goes_on_here, desk_stays}

pub is_there : (o : Option Cargo) (c : Cargo) → o ≡ Some c → is_some o ≡ true
is_there o c e = ap is_some e

pub is_nothing : (o : Option Cargo) → is_some o ≡ false → o ≡ None
is_nothing None h = refl
is_nothing (Some c) h = cc

no_and : (b : Bool) → (b && false) ≡ false
no_and true = refl
no_and false = refl

-- what is put where nothing is loaded
pub puts_none : (e : Event) → put_of e None ≡ None
puts_none e = go e.item
  where
    go : (i : Option Item) → given i None ≡ None
    go None = refl
    go (Some i) = refl

-- a load was put, or is in hand
pub load_cases : (x : Cargo) (p n : Option Cargo) → x ∷ [] ≡ option_to_list p ++ option_to_list n → ((p ≡ Some x) × (n ≡ None)) ⊎ ((p ≡ None) × (n ≡ Some x))
load_cases x None None h = cc
load_cases x None (Some y) h = let e : x ≡ y = cc in inr (refl, ap Some (sym e))
load_cases x (Some y) None h = let e : x ≡ y = cc in inl (ap Some (sym e), refl)
load_cases x (Some y) (Some z) h = cc

-- what fits goes on to fit
pub fits_on : (ends ends' : Role → ℕ → End) (v : NetSwitch) (e : SwitchEnds) (d : Desk) → FitsSwitch ends v → FitsEnds ends' e → SameEnds v.ends e → IsDesk d → d.macs.items ≡ v.desk.macs.items → FitsSwitch ends' (record { ends = e; desk = d })
fits_on ends ends' v e d fits f same desk macs = record {
  ends_fit = f;
  desk = desk;
  ports = ap length macs ∙ (fits.ports ∙ ap length (sym same.come));
}

-- the slot that was there is written again
pub same_slot : (xs : List Slot) (k : ℕ) (s t : Slot) → slice_get xs k ≡ Some s → t ≡ s → slice_set xs k t ≡ xs
same_slot [] k s t at e = refl
same_slot (x ∷ xs) zero s t at e = let h : t ≡ x = e ∙ sym (some_eq at) in ap (λ y. y ∷ xs) h
same_slot (x ∷ xs) (suc k) s t at e = ap (λ l. x ∷ l) (same_slot xs k s t at e)

module _ (ends : Role → ℕ → End) (v new : NetSwitch) (fits : FitsSwitch ends v) (same : SameEnds v.ends new.ends) (passed : Passed) (d : Deed) (port : ℕ) (h : SwitchStandsFor v passed) where
  off_take : is_take d.event.op ≡ false → (k : ℕ) (q : QueueId) → slice_get (come_queues v.ends) k ≡ Some q → takes q.0 d.event ≡ false
  off_take none k q at = ap (λ b. b && d.event.queue.0 == q.0) none

  -- nothing moved
  pub still : is_take d.event.op ≡ false → SameDesk v.desk new.desk → ((n : ℕ) → taken_by d n ≡ []) → ((n : ℕ) → put_by d n ≡ []) → SwitchStandsFor new (with_deed passed d)
  still none desk took puts =
      goes_on_off v new same fits.ports passed d (off_take none) port [] [] [] (desk_stays v.desk new.desk port desk fits.desk) h
      (λ k less. took (queue_at (room_queues v.ends) k) ∙ sym (none_if (port == k)))
      (λ k less. puts (queue_at (copy_queues v.ends) k) ∙ sym (none_if (port == k)))
      (λ k less. puts (queue_at (back_queues v.ends) k) ∙ sym (none_if (port == k)))

  -- a frame was taken
  pub came : (c : Cargo) → slice_get (come_queues v.ends) port ≡ Some d.event.queue → is_take d.event.op ≡ true → Moved v.desk new.desk port ((port, c) ∷ []) [] [] []
      → ((n : ℕ) → taken_by d n ≡ if_there (d.event.queue.0 == n) (c ∷ [])) → ((n : ℕ) → put_by d n ≡ []) → SwitchStandsFor new (with_deed passed d)
  came c on takes_it m took puts =
      goes_on_here v new same fits.ports passed d port c on fits.ends_fit.come.apart takes_it took m h
      (λ k less.
      let there = queue_there (room_queues v.ends) k (let r = fits.ends_fit.room_many in omega (arith, r, less)) in
      took (queue_at (room_queues v.ends) k) ∙ beside d.event.queue.0 (queue_at (room_queues v.ends) k) (c ∷ []) (λ e. fits.ends_fit.inputs_apart port k d.event.queue (slice_index_or (room_queues v.ends) k (record { 0 = 0 })) on there e))
      puts

  -- a buffer for a copy was taken
  pub roomed : (c : Cargo) → slice_get (room_queues v.ends) port ≡ Some d.event.queue → Moved v.desk new.desk port [] (c ∷ []) [] []
      → ((n : ℕ) → taken_by d n ≡ if_there (d.event.queue.0 == n) (c ∷ [])) → ((n : ℕ) → put_by d n ≡ []) → SwitchStandsFor new (with_deed passed d)
  roomed c on m took puts =
      goes_on_off v new same fits.ports passed d
      (λ k q at. ap (λ b. is_take d.event.op && b) (ne_eqb d.event.queue.0 q.0 (λ e. fits.ends_fit.inputs_apart k port q d.event.queue at on (sym e))) ∙ no_and (is_take d.event.op))
      port (c ∷ []) [] [] m h
      (λ k less. at_client (room_queues v.ends) port d.event.queue on fits.ends_fit.room.apart (taken_by d) (c ∷ []) took k (let r = fits.ends_fit.room_many in omega (arith, r, less)) (same_or_not port k))
      (λ k less. puts (queue_at (copy_queues v.ends) k) ∙ sym (none_if (port == k)))
      (λ k less. puts (queue_at (back_queues v.ends) k) ∙ sym (none_if (port == k)))

  -- a copy was put, or is in hand
  pub copied : (l : List Cargo) → slice_get (copy_queues v.ends) port ≡ Some d.event.queue → is_take d.event.op ≡ false → Moved v.desk new.desk port [] [] l []
      → ((n : ℕ) → taken_by d n ≡ []) → ((n : ℕ) → put_by d n ≡ if_there (d.event.queue.0 == n) l) → SwitchStandsFor new (with_deed passed d)
  copied l on none m took puts =
      goes_on_off v new same fits.ports passed d (off_take none) port [] l [] m h
      (λ k less. took (queue_at (room_queues v.ends) k) ∙ sym (none_if (port == k)))
      (λ k less. at_client (copy_queues v.ends) port d.event.queue on fits.ends_fit.copy.apart (put_by d) l puts k (let r = fits.ends_fit.copy_many in omega (arith, r, less)) (same_or_not port k))
      (λ k less.
      let there = queue_there (back_queues v.ends) k (let r = fits.ends_fit.back_many in omega (arith, r, less)) in
      puts (queue_at (back_queues v.ends) k) ∙ (beside d.event.queue.0 (queue_at (back_queues v.ends) k) l (λ e. fits.ends_fit.outputs_apart k port (slice_index_or (back_queues v.ends) k (record { 0 = 0 })) d.event.queue there on (sym e)) ∙ sym (none_if (port == k))))

  -- a buffer went back, or is in hand
  pub went_back : (l : List Cargo) → slice_get (back_queues v.ends) port ≡ Some d.event.queue → is_take d.event.op ≡ false → Moved v.desk new.desk port [] [] [] l
      → ((n : ℕ) → taken_by d n ≡ []) → ((n : ℕ) → put_by d n ≡ if_there (d.event.queue.0 == n) l) → SwitchStandsFor new (with_deed passed d)
  went_back l on none m took puts =
      goes_on_off v new same fits.ports passed d (off_take none) port [] [] l m h
      (λ k less. took (queue_at (room_queues v.ends) k) ∙ sym (none_if (port == k)))
      (λ k less.
      let there = queue_there (copy_queues v.ends) k (let r = fits.ends_fit.copy_many in omega (arith, r, less)) in
      puts (queue_at (copy_queues v.ends) k) ∙ (beside d.event.queue.0 (queue_at (copy_queues v.ends) k) l (λ e. fits.ends_fit.outputs_apart port k d.event.queue (slice_index_or (copy_queues v.ends) k (record { 0 = 0 })) on there e) ∙ sym (none_if (port == k))))
      (λ k less. at_client (back_queues v.ends) port d.event.queue on fits.ends_fit.back.apart (put_by d) l puts k (let r = fits.ends_fit.back_many in omega (arith, r, less)) (same_or_not port k))

-- where the buffer of a port may have gone back
pub back_or_not : (d e : Desk) (port : ℕ) (s : Slot) (x : Cargo) (p n : Option Cargo) → IsDesk d → slice_get d.slots.items port ≡ Some s → is_copied s ≡ true → s.frame ≡ Some x → ((p ≡ Some x) × (n ≡ None)) ⊎ ((p ≡ None) × (n ≡ Some x))
    → WithSlot d e port (record s { frame = n }) → (WithSlot d e port (record s { frame = None }) → Moved d e port [] [] [] (x ∷ [])) → Moved d e port [] [] [] (option_to_list p)
back_or_not d e port s x p n h there copied frame (inl went) w law = rw went.0 (law (subst (λ o. WithSlot d e port (record s { frame = o })) went.1 w))
back_or_not d e port s x p n h there copied frame (inr stays) w law =
    rw stays.0 (desk_stays d e port (record {
      macs = w.macs;
      slots = w.slots ∙ same_slot d.slots.items port s (record s { frame = n }) there (ap (λ (o : Option Cargo). record s { frame = o }) (stays.1 ∙ sym frame));
      order = w.order;
      lost = w.lost;
    }) h)

-- the same desk where a load stays
pub frame_stays : (d e : Desk) (port : ℕ) (s : Slot) (n : Option Cargo) → slice_get d.slots.items port ≡ Some s → n ≡ s.frame → WithSlot d e port (record s { frame = n }) → SameDesk d e
frame_stays d e port s n there is w = record {
  macs = w.macs;
  slots = w.slots ∙ same_slot d.slots.items port s (record s { frame = n }) there (ap (λ (o : Option Cargo). record s { frame = o }) is);
  order = w.order;
  lost = w.lost;
}

pub copy_stays : (d e : Desk) (port : ℕ) (s : Slot) (n : Option Cargo) → slice_get d.slots.items port ≡ Some s → n ≡ s.copy → WithSlot d e port (record s { copy = n }) → SameDesk d e
copy_stays d e port s n there is w = record {
  macs = w.macs;
  slots = w.slots ∙ same_slot d.slots.items port s (record s { copy = n }) there (ap (λ (o : Option Cargo). record s { copy = o }) is);
  order = w.order;
  lost = w.lost;
}

-- what is kept of a port that is so
pub slot_there : (d : Desk) (port : ℕ) (s : Slot) (p : Slot → Bool) → is_so p (slice_get d.slots.items port) ≡ true → s ≡ slice_index_or d.slots.items port s → slice_get d.slots.items port ≡ Some s
slot_there d port s p so is =
    let there = so_there p (slice_get d.slots.items port) so in
    slice_get_read d.slots.items _ port s refl (slice_get_within d.slots.items port there.0 there.1) is

some_there : (o : Option Cargo) → is_some o ≡ true → (x : Cargo) × (o ≡ Some x)
some_there None h = cc
some_there (Some x) h = (x, refl)

pub held_there : (d : Desk) (port : ℕ) (s : Slot) → slice_get d.slots.items port ≡ Some s → is_so is_copied (slice_get d.slots.items port) ≡ true → (x : Cargo) × (s.frame ≡ Some x) × (is_copied s ≡ true)
held_there d port s at so =
    let is : is_copied s ≡ true = sym (ap (is_so is_copied) at) ∙ so in
    let x = some_there s.frame (and_parts (is_some s.frame) (not (is_owing s)) is).0 in
    (x.0, x.1, is)

pub loaded_there : (d : Desk) (port : ℕ) (s : Slot) → slice_get d.slots.items port ≡ Some s → is_so has_copy (slice_get d.slots.items port) ≡ true → (x : Cargo) × (s.copy ≡ Some x)
loaded_there d port s at so = some_there s.copy (sym (ap (is_so has_copy) at) ∙ so)

pub gone_list : (x : Cargo) (p n : Option Cargo) → x ∷ [] ≡ option_to_list p ++ option_to_list n → n ≡ None → option_to_list p ≡ x ∷ []
gone_list x p n h none = sym (append-nil (option_to_list p)) ∙ (ap (λ (o : Option Cargo). option_to_list p ++ option_to_list o) (sym none) ∙ sym h)

pub stays_list : (x : Cargo) (p n : Option Cargo) → x ∷ [] ≡ option_to_list p ++ option_to_list n → is_some n ≡ true → (p ≡ None) × (n ≡ Some x)
stays_list x p n h some = go (load_cases x p n h)
  where
    go : ((p ≡ Some x) × (n ≡ None)) ⊎ ((p ≡ None) × (n ≡ Some x)) → (p ≡ None) × (n ≡ Some x)
    go (inl gone) = absurd (let bad = sym (ap is_some gone.1) ∙ some in cc)
    go (inr stays) = stays

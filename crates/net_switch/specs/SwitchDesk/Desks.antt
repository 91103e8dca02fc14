-- What a switch holds, and how that stands for what it took and put.
use Rattle.std.specs.Prelude.{◌≡◌, ◌<◌, ◌^◌, ◌&&◌, if◌then◌else◌, ℕ, Bool, not, nat_lt, is_none}
use Rattle.std.specs.Prelude.{is_some, Option, Some, None, List, [], ◌++◌, length, drop}
use Rattle.std.specs.Prelude.{flat_map, replicate, count_by, slice_get, slice_set, slice_index_or}
use Rattle.std.specs.Prelude.{false, true}
use Rattle.std.specs.List.{find}
use Rattle.std.specs.Option.{ForSome, option_map, option_to_list}
use Rattle.cargo_core.specs.declared.item.QueueKind.TheVariants as Kind
use Rattle.cargo_core.specs.Items.{kind_of}
use Rattle.frame_core.specs.declared.mac.Mac.{Mac}
use Rattle.wire_core.specs.Deeds.{Cargo}
use Rattle.buffer_kit.specs.Clients.{capped, entry_in, is_so, with_more}
use Rattle.buffer_kit.specs.Entries.{filled, frame_of, all_filled}
use Rattle.net_virt_rx.specs.Sharing.{how_many}
use Rattle.net_switch.specs.declared.switch_desk.slot.Slot.{Slot}
use Rattle.net_switch.specs.declared.switch_desk.desk.Desk.{Desk}
use Rattle.net_switch.specs.SwitchDesk.Frames.{Sent, is_lost, sent_to, frames_to, entries_from}
use Rattle.net_switch.specs.SwitchDesk.Orders.{AreOnce}

-- no frame of the port is held
abbrev pub is_free : Slot → Bool
is_free s = is_none s.frame

-- a copy of the port's frame is owed to some port
abbrev pub is_owing : Slot → Bool
is_owing s = nat_lt 0 (how_many s.owed)

-- a frame of the port is held, and each copy of it was put
abbrev pub is_copied : Slot → Bool
is_copied s = is_some s.frame && not (is_owing s)

-- a copy for the port is in hand
abbrev pub has_copy : Slot → Bool
has_copy s = is_some s.copy

-- the frame that is held of the port at a place
abbrev pub held_at : Desk → ℕ → Option Cargo
held_at d port = entry_in (λ (s : Slot). s.frame) (slice_get d.slots.items port)

-- the copy in hand for the port at a place
abbrev pub copy_at : Desk → ℕ → Option Cargo
copy_at d port = entry_in (λ (s : Slot). s.copy) (slice_get d.slots.items port)

-- a copy of the frame of one port is owed to another
abbrev pub owes : Desk → (sender port : ℕ) → Bool
owes d sender port =
    is_so (λ (s : Slot). slice_index_or s.owed port false) (slice_get d.slots.items sender)

-- the port whose frame was taken first, of those that are owed to the port at a place
abbrev pub first_owing : Desk → ℕ → Option ℕ
first_owing d port = find (λ sender. owes d sender port) d.order

-- the frame of a sender, where it is owed to the port at a place
abbrev pub owed_by : Desk → (port sender : ℕ) → List Sent
owed_by d port sender =
    if owes d sender port then option_to_list (option_map (λ c. (sender, c)) (held_at d sender))
    else []

-- what is owed to the port at a place, in the order in which it was taken
abbrev pub owed_to : Desk → ℕ → List Sent
owed_to d port = flat_map (owed_by d port) d.order

-- the switch takes from the port at a place: it holds no frame of it
abbrev pub is_taking : Desk → ℕ → Bool
is_taking d port = is_so is_free (slice_get d.slots.items port)

-- the port's buffer is to go back to it
abbrev pub is_returning : Desk → ℕ → Bool
is_returning d port = is_so is_copied (slice_get d.slots.items port)

-- a copy is owed to the port at a place, and no buffer for one is in hand
abbrev pub is_wanting : Desk → ℕ → Bool
is_wanting d port =
    is_so (λ s. not (has_copy s)) (slice_get d.slots.items port) && is_some (first_owing d port)

-- a copy is to be put to the port at a place
abbrev pub is_loaded : Desk → ℕ → Bool
is_loaded d port = is_so has_copy (slice_get d.slots.items port)

-- the same desk with this of the port at a place
pub record WithSlot (old new : Desk) (port : ℕ) (s : Slot) : Type 0 where
  pub macs : new.macs.items ≡ old.macs.items
  pub slots : new.slots.items ≡ slice_set old.slots.items port s
  pub order : new.order ≡ old.order
  pub lost : new.lost ≡ old.lost

-- what is kept of one port fits together, where there are so many ports
pub record IsSlot (ports : ℕ) (s : Slot) : Type 0 where
  pub long : length s.owed ≡ ports
  pub frame : ForSome s.frame (λ c. kind_of c.0 ≡ Kind.Net)
  pub copy : ForSome s.copy (λ c. kind_of c.0 ≡ Kind.Net)
  pub owing : (port : ℕ) → slice_index_or s.owed port false ≡ true → is_some s.frame ≡ true

-- what it keeps of each port fits together, and the ports have an order
pub record IsKept (d : Desk) : Type 0 where
  pub few : length d.macs.items < 2 ^ 32
  pub many : length d.slots.items ≡ length d.macs.items
  pub each : (k : ℕ) (s : Slot) → slice_get d.slots.items k ≡ Some s
      → IsSlot (length d.macs.items) s
  pub order : AreOnce (length d.macs.items) d.order

-- what it holds fits together: a copy is in hand only where one is owed
pub record IsDesk (d : Desk) : Type 0 where
  pub kept : IsKept d
  pub copied : (port : ℕ) → is_loaded d port ≡ true → is_some (first_owing d port) ≡ true

-- how it stands, of the port at a place, for what it took of all ports, one after another, the
-- buffers that the port gave for its copies, the copies that went to it, and the buffers that went
-- back to it: of its own all went back but one that is held; each buffer for it was filled with the
-- frame of its place among those that go there, and was put, or is in hand; and the frames that
-- were not put there yet are the held ones that are owed there, in their order
pub record PortStands (d : Desk) (k : ℕ) (sent : List Sent) (gave went back : List Cargo) : Type 0
  where
    pub backs : back ++ option_to_list (held_at d k) ≡ entries_from k sent
    pub copies : went ++ option_to_list (copy_at d k)
        ≡ all_filled (frames_to d.macs.items k sent) gave
    pub takes : length gave ≡ length (went ++ option_to_list (copy_at d k))
    pub owed : drop (length went) (sent_to d.macs.items k sent) ≡ owed_to d k

-- the same of all its ports; and it counts what is lost
pub record DeskStands (d : Desk) (sent : List Sent) (gave went back : ℕ → List Cargo) : Type 0
  where
    pub ports : (k : ℕ) → k < length d.macs.items
        → PortStands d k sent (gave k) (went k) (back k)
    pub lost : d.lost ≡ capped (count_by (is_lost d.macs.items) sent)

-- so much more was taken, and came from and went to the port at a place
pub record Moved (old new : Desk) (port : ℕ) (sent : List Sent) (gave went back : List Cargo) :
    Type 0 where
  pub desk : IsDesk new
  pub macs : new.macs.items ≡ old.macs.items
  pub stands : (ss : List Sent) (gs ws bs : ℕ → List Cargo) → DeskStands old ss gs ws bs
      → DeskStands new (ss ++ sent) (with_more gs port gave) (with_more ws port went)
      (with_more bs port back)

-- a buffer is filled with the frame that was taken first, of those that are owed to the port at a
-- place
pub record IsFilledFor (d : Desk) (port : ℕ) (entry copy : Cargo) : Type 0 where
  pub sender : ℕ
  pub held : Cargo
  pub is_first : first_owing d port ≡ Some sender
  pub is_held : held_at d sender ≡ Some held
  pub copy_is : copy ≡ filled (frame_of held) entry

-- nothing is held of a port, where there are so many ports
pub record IsNewSlot (ports : ℕ) (s : Slot) : Type 0 where
  pub frame : s.frame ≡ None
  pub owed : s.owed ≡ replicate ports false
  pub copy : s.copy ≡ None

-- a desk of these ports that took nothing yet
pub record IsNewDesk (macs : List Mac) (d : Desk) : Type 0 where
  pub macs_are : d.macs.items ≡ macs
  pub many : length d.slots.items ≡ length macs
  pub each : (k : ℕ) (s : Slot) → slice_get d.slots.items k ≡ Some s
      → IsNewSlot (length macs) s
  pub order : AreOnce (length macs) d.order
  pub lost : d.lost ≡ 0

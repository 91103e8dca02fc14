-- The ends of a switch: four for each port.
use Rattle.std.specs.Prelude.{◌≡◌, ◌+◌, ◌<◌, ◌^◌, ℕ, Bool, true, false, Some, List, ◌++◌, length}
use Rattle.std.specs.Prelude.{map, slice_get}
use Rattle.cargo_core.specs.declared.item.QueueKind.TheVariants as Kind
use Rattle.wire_core.specs.declared.names.QueueId.{QueueId}
use Rattle.wire_core.specs.declared.names.Op.{Op}
use Rattle.wire_core.specs.declared.names.Op.TheVariants as Do
use Rattle.wire_core.specs.Ends.{Role, Consumer, Producer, End}
use Rattle.turn_kit.specs.Turns.{Post, Round}
use Rattle.turn_kit.specs.ManyEnds.{FitsIntakes, FitsOutlets, intake_queues, outlet_queues}
use Rattle.turn_kit.specs.ManyEnds.{intake_posts, outlet_posts, needs_from}
use Rattle.buffer_kit.specs.Virtualising.{new_intake, new_outlet}
use Rattle.net_switch.specs.declared.ends.SwitchEnd.{SwitchEnd}
use Rattle.net_switch.specs.declared.ends.SwitchEnd.TheVariants as At
use Rattle.net_switch.specs.declared.ends.SwitchEnds.{SwitchEnds}

-- the call took an entry
abbrev pub is_take : Op → Bool
is_take Do.Take = true
is_take Do.Put = false
is_take Do.See = false
is_take Do.Room = false
is_take (Do.Ask s) = false
is_take (Do.Waive s) = false
is_take (Do.Wake s) = false
is_take (Do.Wanted s) = false
is_take (Do.Settle s) = false
is_take (Do.Ring s) = false
is_take (Do.Store w v) = false

-- the queues on which the ports' frames come
abbrev pub come_queues : SwitchEnds → List QueueId
come_queues e = intake_queues e.come

-- those on which the ports' buffers go back
abbrev pub back_queues : SwitchEnds → List QueueId
back_queues e = outlet_queues e.back

-- those on which buffers for copies come
abbrev pub room_queues : SwitchEnds → List QueueId
room_queues e = intake_queues e.room

-- those on which copies go
abbrev pub copy_queues : SwitchEnds → List QueueId
copy_queues e = outlet_queues e.copy

-- no queue of one list is in another
abbrev pub ShareNone : List QueueId → List QueueId → Type 0
ShareNone qs rs = (k j : ℕ) (q r : QueueId) → slice_get qs k ≡ Some q → slice_get rs j ≡ Some r
    → q.0 ≡ r.0 → ⊥

-- all queues of a list are of the network, at an end of a role
abbrev pub OfNet : (Role → ℕ → End) → Role → List QueueId → Type 0
OfNet ends role qs = (k : ℕ) (q : QueueId) → slice_get qs k ≡ Some q
    → (ends role q.0).kind ≡ Kind.Net

-- the ends are its own, and as it keeps them; no two are one, all are of the network, and each port
-- has one of each sort
pub record FitsEnds (ends : Role → ℕ → End) (e : SwitchEnds) : Type 0 where
  pub come : FitsIntakes ends e.come
  pub back : FitsOutlets ends e.back
  pub room : FitsIntakes ends e.room
  pub copy : FitsOutlets ends e.copy
  pub come_net : OfNet ends Consumer (come_queues e)
  pub back_net : OfNet ends Producer (back_queues e)
  pub room_net : OfNet ends Consumer (room_queues e)
  pub copy_net : OfNet ends Producer (copy_queues e)
  pub inputs_apart : ShareNone (come_queues e) (room_queues e)
  pub outputs_apart : ShareNone (back_queues e) (copy_queues e)
  pub back_many : length (back_queues e) ≡ length (come_queues e)
  pub room_many : length (room_queues e) ≡ length (come_queues e)
  pub copy_many : length (copy_queues e) ≡ length (come_queues e)
  pub some : 0 < length (come_queues e)
  pub few : length (come_queues e) < 2 ^ 32

-- the queues stay
pub record SameEnds (old new : SwitchEnds) : Type 0 where
  pub come : come_queues new ≡ come_queues old
  pub back : back_queues new ≡ back_queues old
  pub room : room_queues new ≡ room_queues old
  pub copy : copy_queues new ≡ copy_queues old

-- the ends in their order
abbrev pub switch_posts : SwitchEnds → List Post
switch_posts e = intake_posts e.come ++ (outlet_posts e.back ++ (intake_posts e.room
    ++ outlet_posts e.copy))

-- which of them are needed, or loaded: each sort by the places of the ports
abbrev pub switch_needs : SwitchEnds → (taking returning wanting loaded : ℕ → Bool) → List Bool
switch_needs e taking returning wanting loaded =
    needs_from taking 0 (come_queues e) ++ (needs_from returning 0 (back_queues e)
    ++ (needs_from wanting 0 (room_queues e) ++ needs_from loaded 0 (copy_queues e)))

-- all ends with what is needed and loaded, and whose turn it is
abbrev pub ends_round : SwitchEnds → (taking returning wanting loaded : ℕ → Bool) → Round
ends_round e taking returning wanting loaded = record {
  posts = switch_posts e;
  needs = switch_needs e taking returning wanting loaded;
  last = e.turn.last;
}

-- the place of an end among them
abbrev pub place_of : SwitchEnds → SwitchEnd → ℕ
place_of e (At.Come k) = k
place_of e (At.Back k) = length (come_queues e) + k
place_of e (At.Room k) = length (come_queues e) + length (back_queues e) + k
place_of e (At.Copy k) =
    length (come_queues e) + length (back_queues e) + length (room_queues e) + k

-- whether it is needed, or loaded
abbrev pub need_at : (taking returning wanting loaded : ℕ → Bool) → SwitchEnd → Bool
need_at taking returning wanting loaded (At.Come k) = taking k
need_at taking returning wanting loaded (At.Back k) = returning k
need_at taking returning wanting loaded (At.Room k) = wanting k
need_at taking returning wanting loaded (At.Copy k) = loaded k

-- there is such an end
abbrev pub IsThere : SwitchEnds → SwitchEnd → Type 0
IsThere e (At.Come k) = k < length (come_queues e)
IsThere e (At.Back k) = k < length (back_queues e)
IsThere e (At.Room k) = k < length (room_queues e)
IsThere e (At.Copy k) = k < length (copy_queues e)

-- ends in their start state, of these queues
pub record AreNewEnds (come back room copy : List QueueId) (e : SwitchEnds) : Type 0 where
  pub come_is : e.come.ends.items ≡ map new_intake come
  pub back_is : e.back.ends.items ≡ map new_outlet back
  pub room_is : e.room.ends.items ≡ map new_intake room
  pub copy_is : e.copy.ends.items ≡ map new_outlet copy
  pub last : e.turn.last ≡ 65535

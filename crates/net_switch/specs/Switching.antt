-- A switch: the order of its takes, what it stands for, its row, and the turn that it is at.
use Rattle.std.specs.Prelude.{◌≡◌, ◌+◌, ◌<◌, ◌≤◌, ◌==◌, ◌&&◌, if◌then◌else◌, ℕ, true, Option, None}
use Rattle.std.specs.Prelude.{List, [], ◌∷◌, ◌++◌, length, map}
use Rattle.std.specs.Prelude.{count_by, position, slice_get, slice_index_or}
use Rattle.std.specs.Option.{option_and_then, option_map, option_to_list}
use Rattle.cargo_core.specs.Lists.{IsPrefix}
use Rattle.wire_core.specs.declared.names.QueueId.{QueueId}
use Rattle.wire_core.specs.declared.names.Event.{Event}
use Rattle.wire_core.specs.Ends.{Role, End}
use Rattle.wire_core.specs.Lists.{Passed, Lists}
use Rattle.turn_kit.specs.Turns.{Round}
use Rattle.buffer_kit.specs.Clients.{capped, queue_at}
use Rattle.buffer_kit.specs.Entries.{all_filled}
use Rattle.net_switch.specs.declared.switch_desk.desk.Desk.{Desk}
use Rattle.net_switch.specs.SwitchDesk.Frames.{Sent, goes_to, is_lost, sent_to, frames_to, entries_from}
use Rattle.net_switch.specs.SwitchDesk.Desks.{IsDesk, DeskStands, is_taking, is_returning, is_wanting}
use Rattle.net_switch.specs.SwitchDesk.Desks.{IsNewDesk, is_loaded}
use Rattle.net_switch.specs.declared.switch.NetSwitch.{NetSwitch}
use Rattle.net_switch.specs.declared.switch.PortEnds.{PortEnds}
use Rattle.net_switch.specs.Ends.{FitsEnds, SameEnds, AreNewEnds, is_take, ends_round, come_queues}
use Rattle.net_switch.specs.Ends.{back_queues, room_queues, copy_queues}

-- how many of these calls took from a queue
abbrev pub takes_on : ℕ → List Event → ℕ
takes_on queue calls = count_by (λ (e : Event). is_take e.op && e.queue.0 == queue) calls

-- the port from whose queue a call took
abbrev pub port_of : List QueueId → Event → Option ℕ
port_of queues e =
    if is_take e.op then position (λ (q : QueueId). q.0 == e.queue.0) queues else None

-- what a call took from a port after these calls: the next of the entries of its queue
abbrev pub took : List QueueId → Lists → (before : List Event) → Event → List Sent
took queues taken before e =
    option_to_list (option_and_then (λ port. option_map (λ c. (port, c))
    (slice_get (taken e.queue.0) (takes_on e.queue.0 before))) (port_of queues e))

-- what the calls took from the ports, in the order of the calls, where these calls came before
abbrev pub taken_after : List QueueId → Lists → (before : List Event) → List Event → List Sent
taken_after queues taken before [] = []
taken_after queues taken before (e ∷ es) =
    took queues taken before e ++ taken_after queues taken (before ++ e ∷ []) es

-- what passed from the ports to the switch, in the order of its takes
abbrev pub taken_in_order : List QueueId → Passed → List Sent
taken_in_order queues passed = taken_after queues passed.taken [] passed.calls

-- what a switch took, in the order of its takes
abbrev pub all_sent : NetSwitch → Passed → List Sent
all_sent v passed = taken_in_order (come_queues v.ends) passed

-- the ends are its own, and what it holds fits together, for each port
pub record FitsSwitch (ends : Role → ℕ → End) (v : NetSwitch) : Type 0 where
  pub ends_fit : FitsEnds ends v.ends
  pub desk : IsDesk v.desk
  pub ports : length v.desk.macs.items ≡ length (come_queues v.ends)

-- its desk stands for what passed at its ends, and each entry that came was taken by a call
pub record SwitchStandsFor (v : NetSwitch) (passed : Passed) : Type 0 where
  pub fits : IsDesk v.desk
  pub ports : length v.desk.macs.items ≡ length (come_queues v.ends)
  pub desk : DeskStands v.desk (all_sent v passed)
      (λ k. passed.taken (queue_at (room_queues v.ends) k))
      (λ k. passed.sent (queue_at (copy_queues v.ends) k))
      (λ k. passed.sent (queue_at (back_queues v.ends) k))
  pub came : (k : ℕ) → k < length (come_queues v.ends)
      → entries_from k (all_sent v passed) ≡ passed.taken (queue_at (come_queues v.ends) k)
  pub called : (k : ℕ) → k < length (come_queues v.ends)
      → takes_on (queue_at (come_queues v.ends) k) passed.calls
      ≡ length (passed.taken (queue_at (come_queues v.ends) k))

-- what it does with what it took, in the order of its takes: each port's buffers go back in their
-- order, all but one at most, and each only after its copies; each buffer of a port is filled with
-- the next frame that goes there, and it takes no more of them than such frames; and it counts the
-- frames that go to no port
pub record SwitchRow (v : NetSwitch) (passed : Passed) : Type 0 where
  pub backs : (k : ℕ) → k < length (come_queues v.ends)
      → IsPrefix (passed.sent (queue_at (back_queues v.ends) k))
      (passed.taken (queue_at (come_queues v.ends) k))
  pub held : (k : ℕ) → k < length (come_queues v.ends)
      → length (passed.taken (queue_at (come_queues v.ends) k))
      ≤ length (passed.sent (queue_at (back_queues v.ends) k)) + 1
  pub copies : (k : ℕ) → k < length (come_queues v.ends)
      → IsPrefix (passed.sent (queue_at (copy_queues v.ends) k))
      (all_filled (frames_to v.desk.macs.items k (all_sent v passed))
      (passed.taken (queue_at (room_queues v.ends) k)))
  pub rooms : (k : ℕ) → k < length (come_queues v.ends)
      → length (passed.taken (queue_at (room_queues v.ends) k))
      ≤ length (frames_to v.desk.macs.items k (all_sent v passed))
  -- of each frame whose buffer went back, all copies were put before
  pub after_copies : (before after : List Sent) (x : Sent) (port : ℕ)
      → x.0 < length (come_queues v.ends) → all_sent v passed ≡ before ++ x ∷ after
      → length (entries_from x.0 before) < length (passed.sent (queue_at (back_queues v.ends) x.0))
      → goes_to v.desk.macs.items port x ≡ true
      → length (sent_to v.desk.macs.items port before)
      < length (passed.sent (queue_at (copy_queues v.ends) port))
  pub came : (k : ℕ) → k < length (come_queues v.ends)
      → entries_from k (all_sent v passed) ≡ passed.taken (queue_at (come_queues v.ends) k)
  pub lost : v.desk.lost
      ≡ capped (count_by (is_lost v.desk.macs.items) (all_sent v passed))

-- its ends: it needs the frames of each port of which it holds none, and a buffer of each port to
-- which it owes a copy without one in hand; it owes filled buffers, and those whose copies are put
abbrev pub switch_round : NetSwitch → Round
switch_round v = ends_round v.ends (is_taking v.desk) (is_returning v.desk) (is_wanting v.desk)
    (is_loaded v.desk)

-- the queues and the addresses stay
pub record SameSwitch (old new : NetSwitch) : Type 0 where
  pub ends : SameEnds old.ends new.ends
  pub macs : new.desk.macs.items ≡ old.desk.macs.items

-- what it holds stays
pub record SameDesk (old new : Desk) : Type 0 where
  pub macs : new.macs.items ≡ old.macs.items
  pub slots : new.slots.items ≡ old.slots.items
  pub order : new.order ≡ old.order
  pub lost : new.lost ≡ old.lost

-- the queue of a place among those of a port
abbrev pub queue_of : List QueueId → ℕ → QueueId
queue_of queues place = slice_index_or queues place (record { 0 = 0 })

-- a switch in its start state, of these ports
pub record IsNewSwitch (ports : List PortEnds) (v : NetSwitch) : Type 0 where
  pub ends : AreNewEnds (map (λ (p : PortEnds). queue_of p.tx 0) ports)
      (map (λ (p : PortEnds). queue_of p.tx 1) ports)
      (map (λ (p : PortEnds). queue_of p.rx 1) ports)
      (map (λ (p : PortEnds). queue_of p.rx 0) ports) v.ends
  pub desk : IsNewDesk (map (λ (p : PortEnds). p.mac) ports) v.desk

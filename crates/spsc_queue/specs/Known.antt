-- How what a caller sees of an end, a ring and an ended ring lies in their fields.
pub mod Ends
use Rattle.std.specs.Prelude.{◌≡◌, ◌≢◌, ℕ, ◌+◌, ◌%◌, ◌<◌, ◌≤◌, length, true, false, Option}
use Rattle.std.specs.Prelude.{List, [], ◌∷◌, Some, None}
use Rattle.cargo_core.specs.Capacities.{IsCapacity}
use Rattle.wire_core.specs.declared.names.BellState.{BellState}
use Rattle.wire_core.specs.declared.names.Side.{Side}
use Rattle.wire_core.specs.declared.names.Side.TheVariants.{Forward, Backward}
use Rattle.wire_core.specs.Deeds.{Cargo}
use Rattle.spsc_queue.specs.declared.producer.Producer.TheInside as Make
use Rattle.spsc_queue.specs.declared.consumer.Consumer.TheInside as Use
use Rattle.spsc_queue.specs.declared.ring.Ring.TheInside as Lie
use Rattle.spsc_queue.specs.declared.ended.Ended.TheInside as Rest
use Rattle.spsc_queue.specs.declared.view.View.{View}
use Rattle.spsc_queue.specs.Known.Ends.{EndIs, RingIs, EndedIs}
use Rattle.spsc_queue.specs.Rule.{wrap, blank_view}
use Rattle.spsc_queue.specs.Steps.{slots_held, GrantedKind}

-- a producing end keeps the wrapped number of what it sent, for how many entries it knows of room,
-- and which sort of ring it is, and holds the slot that was granted to it; a wild ring has a guard
-- for each place
pub record IsProducer (p : Make.Inside) : Type 0 where
  pub produces : p.seat.me.0.produces ≡ true
  pub consumes : p.seat.me.0.consumes ≡ false
  pub index : p.tail ≡ wrap (length p.seat.me.0.producer.entries)
  pub holding : p.seat.me.1 ≡ slots_held p.seat.me.0.producer.grant
      (length p.seat.me.0.producer.entries % p.seat.table_id.slots)
  pub ahead : p.ahead ≡ p.seat.me.0.producer.ahead
  pub waiter : p.waiter ≡ p.seat.me.0.producer.waiter
  pub ringer : p.ringer ≡ p.seat.me.0.producer.ringer
  pub granted : (x : Cargo) → p.seat.me.0.producer.grant ≢ Some (Some x)
  pub sort : p.wild ≡ p.seat.me.0.producer.wild
  pub guards : p.wild ≡ true → p.seat.table_id.words ≡ 36 + p.seat.table_id.slots

-- what a caller sees of a producing end
abbrev pub producer_is : Make.Inside → EndIs
producer_is p = record { ring = p.seat.table_id; knows = p.seat.me.0.producer }

-- a consuming end keeps the wrapped number of what it took, of how many entries it knows, and which
-- sort of ring it is, and holds the slot that was granted to it; a wild ring has a guard for each
-- place
pub record IsConsumer (p : Use.Inside) : Type 0 where
  pub consumes : p.seat.me.0.consumes ≡ true
  pub produces : p.seat.me.0.produces ≡ false
  pub index : p.head ≡ wrap (length p.seat.me.0.consumer.entries)
  pub holding : p.seat.me.1 ≡ slots_held p.seat.me.0.consumer.grant
      (length p.seat.me.0.consumer.entries % p.seat.table_id.slots)
  pub ahead : p.ahead ≡ p.seat.me.0.consumer.ahead
  pub waiter : p.waiter ≡ p.seat.me.0.consumer.waiter
  pub ringer : p.ringer ≡ p.seat.me.0.consumer.ringer
  pub granted : GrantedKind p.seat.me.0.consumer.kind p.seat.me.0.consumer.grant
  pub sort : p.wild ≡ p.seat.me.0.consumer.wild
  pub guards : p.wild ≡ true → p.seat.table_id.words ≡ 36 + p.seat.table_id.slots

-- what a caller sees of a consuming end
abbrev pub consumer_is : Use.Inside → EndIs
consumer_is p = record { ring = p.seat.table_id; knows = p.seat.me.0.consumer }

-- a ring has thirty-six words, of which six are used, and behind them the guards where it is wild,
-- and its capacity is a power of two, so that it divides the numbers of an index
pub record IsRing (r : Lie.Inside) : Type 0 where
  pub words : 36 ≤ r.table.shared.table_id.words
  pub slots : r.table.shared.table_id.slots ≡ r.capacity
  pub power : IsCapacity r.capacity
  pub some_place : 0 < r.capacity
  pub few : r.capacity ≤ 32768
  pub divides : 65536 % r.capacity ≡ 0

-- what a caller sees of a ring
abbrev pub ring_is : Lie.Inside → RingIs
ring_is r = record {
  id = r.table.shared.table_id;
  kind = r.table.shared.key.kind;
  wild = r.table.shared.key.wild;
}

-- the one view of a badge that has one
abbrev pub only_view : List View → View
only_view [] = blank_view
only_view (v ∷ vs) = v

-- an ended ring keeps the wrapped numbers of what was sent and of what was taken
pub record IsEnded (e : Rest.Inside) : Type 0 where
  pub sent : e.sent ≡ wrap (length (only_view e.badge.views).producer.entries)
  pub taken : e.taken ≡ wrap (length (only_view e.badge.views).consumer.entries)

-- what a caller sees of an ended ring
abbrev pub ended_is : Rest.Inside → EndedIs
ended_is e = record {
  capacity = e.badge.table_id.slots;
  producer = (only_view e.badge.views).producer;
  consumer = (only_view e.badge.views).consumer;
  left = e.left.items;
  forward = e.forward;
  backward = e.backward;
}

-- one of its two bells
abbrev pub ended_bell : EndedIs → Side → BellState
ended_bell e Forward = e.forward
ended_bell e Backward = e.backward

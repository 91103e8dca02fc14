-- Queues that go on from ended rings, and actors at them.
use Rattle.std.specs.Prelude.{◌≡◌, ℕ, Some, true, List, All, length, map, slice_get}
use Rattle.std.specs.List.{AllZip}
use Rattle.cargo_core.specs.Items.{kind_of}
use Rattle.wire_core.specs.declared.names.QueueRow.{QueueRow}
use Rattle.wire_core.specs.Ends.{Role, Consumer, Producer}
use Rattle.wire_core.specs.Journal.{History, IsShown, TrackHolds, Flows, history_at, owner_of}
use Rattle.wire_core.specs.Journal.{is_calm}
use Rattle.wire_core.specs.Queues.{queue_at, end_at}
use Rattle.spsc_queue.specs.Known.Ends.{EndIs, EndedIs}
use Rattle.plain_wires.specs.Adopted.{IsEndedOf, all_adopted}
use Rattle.actor_set.specs.Actors.{FitsActor, ActorEnd, Forgot}
use Rattle.actor_set.specs.declared.actor.Actor.{Actor}
use Rattle.order_law.specs.ActorParts.Parting.{Apart, apart_end, hostile_apart}
use Rattle.order_law.specs.ActorParts.Finished.{OwnEnd}
use Rattle.order_law.specs.Ended.Tracks.{track_of, TellsEnds}

-- what the queues had when their rings came to their end
abbrev pub history_left : List EndedIs → History
history_left ended = map track_of ended

-- a queue goes on as its track shows: its bells hold where it has no hostile end, it hands over in
-- order, and its track tells what both owners knew of its ends
pub record GoesOnAt (rows : List QueueRow) (parts : List Apart) (ended : List EndedIs) (n : ℕ)
    (row : QueueRow) : Type 0 where
  pub shown : IsShown row (queue_at (all_adopted rows ended) n) (history_at (history_left ended) n)
  pub bells_hold : is_calm (hostile_apart parts) row ≡ true
      → TrackHolds row (history_at (history_left ended) n)
  pub flows : Flows row (history_at (history_left ended) n)
  pub tells : (p c : EndIs) → OwnEnd parts row Producer n p → OwnEnd parts row Consumer n c
      → TellsEnds p.knows c.knows (history_at (history_left ended) n)

-- each queue does; and an actor that forgot its looks fits its ends there, where they are its own
-- by the rows
pub record AreLeft (rows : List QueueRow) (parts : List Apart) (ended : List EndedIs) : Type 0 where
  pub ended_of : AllZip IsEndedOf rows ended
  pub size : length (all_adopted rows ended) ≡ length rows
  pub each : (n : ℕ) (row : QueueRow) → slice_get rows n ≡ Some row
      → GoesOnAt rows parts ended n row
  -- all that was put to a queue is of its kind
  pub kinds : (n : ℕ) (row : QueueRow) (e : EndedIs) → slice_get rows n ≡ Some row
      → slice_get ended n ≡ Some e → All (λ x. kind_of x.0 ≡ row.kind) e.producer.entries
  pub fits : (k : ℕ) (p : Apart) (x : Actor) → slice_get parts k ≡ Some p → Forgot p.actor x
      → FitsActor (apart_end p) x → ((r : Role) (n : ℕ) → ActorEnd x r n → (row : QueueRow)
      × (slice_get rows n ≡ Some row) × (owner_of row r ≡ k))
      → FitsActor (end_at (all_adopted rows ended)) x

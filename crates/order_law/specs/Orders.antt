-- The calls of all actors, one after another.
use Rattle.std.specs.Prelude.{◌≡◌, ◌+◌, ◌<◌, ℕ, Option, Some, None, List, [], ◌∷◌, length, map}
use Rattle.std.specs.Prelude.{slice_get, slice_set}
use Rattle.std.specs.Option.{option_map_or}
use Rattle.cargo_core.specs.Lists.{IsPrefix}
use Rattle.wire_core.specs.declared.names.QueueRow.{QueueRow}
use Rattle.wire_core.specs.declared.names.Event.{Event}
use Rattle.wire_core.specs.Deeds.{Deed, Cargo}
use Rattle.wire_core.specs.Ends.{Role, Consumer, Producer, End}
use Rattle.wire_core.specs.Fates.{noes_at}
use Rattle.wire_core.specs.Journal.{owner_of}
use Rattle.wire_core.specs.Lists.{Passed, with_deed}
use Rattle.spsc_queue.specs.Known.Ends.{EndIs}
use Rattle.seat_wires.specs.Places.Are.{SeatsAre}
use Rattle.seat_wires.specs.Places.{ends_of, stands_at, seats_taken, seats_sent}
use Rattle.seat_wires.specs.Times.{times_at}
use Rattle.actor_set.specs.Actors.{FitsActor, ActorStandsFor, ActorTurned, IsActorCall, part_of}
use Rattle.actor_set.specs.declared.actor.Actor.{Actor}
use Rattle.order_law.specs.Tales.{Call, Goes}

-- an actor at its ends
pub record Seated : Type 0 where
  pub actor : Actor
  pub seats : SeatsAre

-- the actors without their ends
abbrev pub actors_of : List Seated → List Actor
actors_of all = map (λ (x : Seated). x.actor) all

-- what passed at the end of a role at a place
abbrev pub entries_at : SeatsAre → Role → ℕ → List Cargo
entries_at s Consumer n = seats_taken s n
entries_at s Producer n = seats_sent s n

-- what passed at the end of a queue that its owner by the rows has
abbrev pub listed : List QueueRow → List Seated → Role → ℕ → List Cargo
listed rows all r n = option_map_or (λ (row : QueueRow).
    option_map_or (λ (x : Seated). entries_at x.seats r n) (slice_get all (owner_of row r)) [])
    (slice_get rows n) []

-- what passed at all queues, where these calls were made
abbrev pub passed_by : List QueueRow → List Seated → List Event → Passed
passed_by rows all calls = record {
  taken = listed rows all Consumer;
  sent = listed rows all Producer;
  calls = calls;
}

-- how often an end looked in vain, if it is there
abbrev pub noes_known : Option EndIs → ℕ
noes_known None = 0
noes_known (Some e) = e.knows.noes

-- how often the end of a queue that stands at these seats did
abbrev pub noes_seen : SeatsAre → Role → ℕ → ℕ
noes_seen s r n = noes_known (stands_at (ends_of s r) n)

-- how often the end of a queue did that its owner by the rows has
abbrev pub looked : List QueueRow → List Seated → Role → ℕ → ℕ
looked rows all r n = option_map_or (λ (row : QueueRow).
    option_map_or (λ (x : Seated). noes_seen x.seats r n) (slice_get all (owner_of row r)) 0)
    (slice_get rows n) 0

-- by these calls, made between the two, each end looked in vain so often more
abbrev pub HaveLooked : List QueueRow → (olds news : List Seated) → List Event → Type 0
HaveLooked rows olds news calls = (r : Role) (n : ℕ)
    → looked rows news r n ≡ looked rows olds r n + noes_at r n calls

-- the actor at a place made a call, and is this one then
pub record Turn : Type 0 where
  pub number : ℕ
  pub deed : Deed
  pub actor : Actor

-- it is the turn of one of these actors, at an end of its own or by a store of a hostile client,
-- whose calls are those of its acts; it fits its ends then, and after its call what was taken at
-- each queue is a beginning of what was put there
pub record IsTurn (actors : List Actor) (passed : Passed) (t : Turn) : Type 0 where
  pub old : Actor
  pub there : slice_get actors t.number ≡ Some old
  pub own : IsActorCall old t.deed.event
  pub turned : ActorTurned old t.deed.event t.actor
  pub part : part_of t.actor ≡ part_of old
  pub kept : (p : Passed) → ActorStandsFor old p → ActorStandsFor t.actor (with_deed p t.deed)
  pub ends : Role → ℕ → End
  pub fits : FitsActor ends t.actor
  pub hands_over : (n : ℕ)
      → IsPrefix ((with_deed passed t.deed).taken n) ((with_deed passed t.deed).sent n)

-- by these turns, one after another, actors for which this passed came to be those for which that
-- passed
abbrev pub InOrder : List Actor → Passed → List Turn → List Actor → Passed → Type 0
InOrder actors passed [] after end = (after ≡ actors) × (end ≡ passed)
InOrder actors passed (t ∷ ts) after end = IsTurn actors passed t
    × InOrder (slice_set actors t.number t.actor) (with_deed passed t.deed) ts after end

-- actors that began with nothing made their calls at ends that are their own by the rows; and of
-- each queue, what its consumer took is a beginning of what its producer put, with the times at
-- which it was put
pub record HaveRun (rows : List QueueRow) (olds news : List Seated) : Type 0 where
  pub many : length news ≡ length olds
  pub tales : (k : ℕ) (x : Seated) → slice_get olds k ≡ Some x → (y : Seated)
      × (slice_get news k ≡ Some y) × (calls : List Call)
      × Goes x.actor x.seats calls y.actor y.seats
  pub own : (k : ℕ) (x : Seated) → slice_get olds k ≡ Some x → (r : Role) (n : ℕ) (e : EndIs)
      → stands_at (ends_of x.seats r) n ≡ Some e → (row : QueueRow)
      × (slice_get rows n ≡ Some row) × (owner_of row r ≡ k)
  pub anew : (k : ℕ) (x : Seated) → slice_get olds k ≡ Some x → (r : Role) (n : ℕ)
      → (entries_at x.seats r n ≡ []) × (times_at x.seats r n ≡ [])
  pub peers : (n : ℕ) (row : QueueRow) → slice_get rows n ≡ Some row → (r : Role)
      → owner_of row r < length olds
  pub flows : (n : ℕ) (row : QueueRow) → slice_get rows n ≡ Some row → (p c : Seated)
      → slice_get news row.producer.0 ≡ Some p → slice_get news row.consumer.0 ≡ Some c
      → IsPrefix (entries_at c.seats Consumer n) (entries_at p.seats Producer n)
      × IsPrefix (times_at c.seats Consumer n) (times_at p.seats Producer n)

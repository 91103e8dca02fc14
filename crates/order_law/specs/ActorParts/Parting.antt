-- An actor apart with its ends: what it knows of them and what passed there, and what it must meet.
use Rattle.std.specs.Prelude.{◌≡◌, ◌==◌, if◌then◌else◌, ℕ, Option, Some, None, List, [], ◌∷◌}
use Rattle.std.specs.Prelude.{slice_get, true, not, map}
use Rattle.std.specs.List.{AllZip}
use Rattle.cargo_core.specs.declared.memory.Memory.{Memory}
use Rattle.wire_core.specs.declared.names.Event.{Event}
use Rattle.wire_core.specs.declared.names.QueueId.{QueueId}
use Rattle.wire_core.specs.declared.names.QueueRow.{QueueRow}
use Rattle.wire_core.specs.Ends.{Role, Consumer, Producer, End}
use Rattle.wire_core.specs.Journal.{Hostiles, is_calm, owner_of}
use Rattle.wire_core.specs.Lists.{Passed}
use Rattle.spsc_queue.specs.Known.Ends.{EndIs, RingIs}
use Rattle.seat_wires.specs.Places.{end_known, entries_known}
use Rattle.play_core.specs.Manners.{is_hostile}
use Rattle.actor_set.specs.Actors.{FitsActor, ActorStandsFor, part_of}
use Rattle.actor_set.specs.Laws.Kinds.{hostiles, manner_of}
use Rattle.actor_set.specs.declared.actor.Actor.{Actor}

-- an actor, the want of memory that a step of it met since it was set apart, if one did, and its
-- producing and consuming ends with the numbers of their queues
pub record Apart : Type 0 where
  pub actor : Actor
  pub wanted : Option Memory
  pub producers : List (QueueId × EndIs)
  pub consumers : List (QueueId × EndIs)

-- its ends of one role
abbrev pub ends_at : Apart → Role → List (QueueId × EndIs)
ends_at p Consumer = p.consumers
ends_at p Producer = p.producers

-- the end of a queue among these, the first of them
abbrev pub end_in : List (QueueId × EndIs) → ℕ → Option EndIs
end_in [] n = None
end_in (x ∷ xs) n = if x.0.0 == n then Some x.1 else end_in xs n

-- what the actor knows of an end
abbrev pub apart_end : Apart → Role → ℕ → End
apart_end p r n = end_known (end_in (ends_at p r) n)

-- what passed at its ends, where these calls were made
abbrev pub apart_passed : Apart → List Event → Passed
apart_passed p calls = record {
  taken = λ n. entries_known (end_in p.consumers n);
  sent = λ n. entries_known (end_in p.producers n);
  calls = calls;
}

-- no two of an actor's ends on one side are of one queue, and each is of the ring at its queue's
-- place and knows whether that one is wild, as are all of a hostile actor; the actor fits them and
-- stands for what passed there by some calls, and no step of it wanted memory
pub record StandsApart (rings : List RingIs) (p : Apart) : Type 0 where
  pub once : (r : Role) (i j : ℕ) (x y : QueueId × EndIs) → slice_get (ends_at p r) i ≡ Some x
      → slice_get (ends_at p r) j ≡ Some y → x.0.0 ≡ y.0.0 → i ≡ j
  pub on : (r : Role) (i : ℕ) (x : QueueId × EndIs) → slice_get (ends_at p r) i ≡ Some x
      → (ring : RingIs) × (slice_get rings x.0.0 ≡ Some ring) × (x.1.ring ≡ ring.id)
  pub sorts : (r : Role) (i : ℕ) (x : QueueId × EndIs) → slice_get (ends_at p r) i ≡ Some x
      → (ring : RingIs) → slice_get rings x.0.0 ≡ Some ring → x.1.knows.wild ≡ ring.wild
  pub wild : is_hostile (manner_of (part_of p.actor)) ≡ true → (r : Role) (i : ℕ)
      (x : QueueId × EndIs) → slice_get (ends_at p r) i ≡ Some x → x.1.knows.wild ≡ true
  pub fits : FitsActor (apart_end p) p.actor
  pub stands : (calls : List Event) × ActorStandsFor p.actor (apart_passed p calls)
  pub fine : p.wanted ≡ None

-- actor k has just the ends that the rows give it
pub record HasItsEnds (rows : List QueueRow) (k : ℕ) (p : Apart) : Type 0 where
  pub own : (r : Role) (i : ℕ) (x : QueueId × EndIs) → slice_get (ends_at p r) i ≡ Some x
      → (row : QueueRow) × (slice_get rows x.0.0 ≡ Some row) × (owner_of row r ≡ k)
  pub all : (r : Role) (n : ℕ) (row : QueueRow) → slice_get rows n ≡ Some row → owner_of row r ≡ k
      → (e : EndIs) × (end_in (ends_at p r) n ≡ Some e)

-- which of these actors are hostile
abbrev pub hostile_apart : List Apart → Hostiles
hostile_apart parts = hostiles (map (λ (p : Apart). part_of p.actor) parts)

-- a ring as a row says, which is wild where a hostile actor has an end of the queue
abbrev pub IsRingOf : Hostiles → QueueRow → RingIs → Type 0
IsRingOf hostile row ring = (ring.kind ≡ row.kind) × (ring.id.slots ≡ row.capacity)
    × (ring.wild ≡ not (is_calm hostile row))

-- one ring for each row, and the actors apart, each with the ends that the rows give it
pub record AreApart (rows : List QueueRow) (rings : List RingIs) (parts : List Apart) : Type 0 where
  pub rings_are : AllZip (IsRingOf (hostile_apart parts)) rows rings
  pub ends : (k : ℕ) (p : Apart) → slice_get parts k ≡ Some p → HasItsEnds rows k p
  pub stand : (k : ℕ) (p : Apart) → slice_get parts k ≡ Some p → StandsApart rings p

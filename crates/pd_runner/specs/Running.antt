-- What a run leaves of each part.
use Rattle.std.specs.Prelude.{◌≡◌, ◌≤◌, ℕ, true, false, Some, None, List, [], ◌∷◌, length}
use Rattle.wire_core.specs.declared.names.Event.{Event}
use Rattle.wire_core.specs.Ends.{Role}
use Rattle.wire_core.specs.Lists.{Passed}
use Rattle.spsc_queue.specs.Known.Ends.{EndIs, RingIs}
use Rattle.seat_wires.specs.Places.Are.{SeatsAre}
use Rattle.seat_wires.specs.Places.{EndsOn, IsWildRing, ends_of, seat_end, seats_taken}
use Rattle.seat_wires.specs.Places.{seats_sent, stands_at}
use Rattle.seat_wires.specs.Went.{Went}
use Rattle.play_core.specs.Manners.{is_hostile}
use Rattle.actor_set.specs.Actors.{FitsActor, ActorStandsFor, ActorRow, actor_rests, part_of}
use Rattle.actor_set.specs.Laws.Kinds.{manner_of}
use Rattle.actor_set.specs.declared.actor.Actor.{Actor}
use Rattle.order_law.specs.Tales.{Call, Goes}
use Rattle.pd_runner.specs.declared.part.Part.{Part}

-- what passed at the ends of an actor, as the ends show it, where these calls were made
abbrev pub passed_at : SeatsAre → List Event → Passed
passed_at s calls = record { taken = seats_taken s; sent = seats_sent s; calls = calls }

-- the actor's ends are as it keeps them, and it stands for their lists, by some calls
pub record Sits (a : Actor) (s : SeatsAre) : Type 0 where
  pub fits : FitsActor (seat_end s) a
  pub lists : (calls : List Event) × ActorStandsFor a (passed_at s calls)

-- the same actor came this far by n steps: its ends stayed, and their lists begin with those that
-- they had; call by call this is what it did
pub record Comes (a : Actor) (s : SeatsAre) (n : ℕ) (b : Actor) (t : SeatsAre) : Type 0 where
  pub same : part_of b ≡ part_of a
  pub sits : Sits b t
  pub went : Went s n t
  pub calls : List Call
  pub goes : Goes a s calls b t

-- the ends of a part over the rings
abbrev pub part_seats : List RingIs → Part → SeatsAre
part_seats rings p = record {
  rings = rings;
  producers = p.producers.items;
  consumers = p.consumers.items;
}

-- each end belongs to the ring at its place, of which there are as many as queues at most; and the
-- actor stands for their lists
pub record Stands (rings : List RingIs) (p : Part) : Type 0 where
  pub producers : EndsOn rings p.producers.items
  pub consumers : EndsOn rings p.consumers.items
  pub few_producers : length p.producers.items ≤ 65536
  pub few_consumers : length p.consumers.items ≤ 65536
  pub sits : Sits p.worker.actor (part_seats rings p)

-- no step of its actor wanted memory
abbrev pub HasNoWant : Part → Type 0
HasNoWant p = p.worker.wanted ≡ None

-- where an actor is hostile, the rings at which it has an end are wild
abbrev pub AreWild : Actor → SeatsAre → Type 0
AreWild a s = is_hostile (manner_of (part_of a)) ≡ true → (r : Role) (n : ℕ) (e : EndIs)
    → stands_at (ends_of s r) n ≡ Some e → IsWildRing s.rings n

-- a part whose actor may be stepped
pub record IsReady (rings : List RingIs) (p : Part) : Type 0 where
  pub stands : Stands rings p
  pub wild : AreWild p.worker.actor (part_seats rings p)
  pub fine : HasNoWant p

-- the part came of the old one by n steps, and its row holds
pub record Came (rings : List RingIs) (old : Part) (n : ℕ) (new : Part) : Type 0 where
  pub stands : Stands rings new
  pub comes : Comes old.worker.actor (part_seats rings old) n new.worker.actor
      (part_seats rings new)
  pub row : (calls : List Event)
      × ActorRow new.worker.actor (passed_at (part_seats rings new) calls)

-- none of these calls was made at rest
abbrev pub AreAtWork : Actor → List Call → Type 0
AreAtWork a [] = Unit {0}
AreAtWork a (c ∷ cs) = (actor_rests a ≡ false) × AreAtWork c.actor cs

-- the same, and it made no step at rest
pub record CameAtWork (rings : List RingIs) (old : Part) (n : ℕ) (new : Part) : Type 0 where
  pub came : Came rings old n new
  pub at_work : AreAtWork old.worker.actor came.comes.calls

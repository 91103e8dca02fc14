-- How far actors apart came in a run.
use Rattle.std.specs.Prelude.{◌≡◌, ◌≤◌, ℕ, true, Some, List, slice_get}
use Rattle.spsc_queue.specs.Known.Ends.{RingIs}
use Rattle.seat_wires.specs.Places.Are.{SeatsAre}
use Rattle.actor_set.specs.Actors.{actor_rests}
use Rattle.order_law.specs.ActorParts.Parting.{Apart}
use Rattle.order_law.specs.ActorParts.Going.{AreSeatsOf}
use Rattle.pd_runner.specs.Running.{Comes}

-- the same actor after so many steps: call by call, this is what it did at its ends
pub record CameApart (rings : List RingIs) (steps : ℕ) (old new : Apart) : Type 0 where
  pub before : SeatsAre
  pub after : SeatsAre
  pub began : AreSeatsOf rings old before
  pub ended : AreSeatsOf rings new after
  pub comes : Comes old.actor before steps new.actor after

-- after no more steps than are allowed
abbrev pub CameWithin : List RingIs → (limit : ℕ) → Apart → Apart → Type 0
CameWithin rings limit old new = (steps : ℕ) × (steps ≤ limit) × CameApart rings steps old new

-- its ends made at least as many word steps as are allowed
abbrev pub HasSpent : List RingIs → (limit : ℕ) → Apart → Apart → Type 0
HasSpent rings limit old new = (steps : ℕ) × (limit ≤ steps) × CameApart rings steps old new

-- the actor is at rest
abbrev pub IsResting : Apart → Type 0
IsResting p = actor_rests p.actor ≡ true

-- all of them are
abbrev pub AreResting : List Apart → Type 0
AreResting parts = (k : ℕ) (p : Apart) → slice_get parts k ≡ Some p → IsResting p

-- What one actor did at its ends, call by call.
use Rattle.std.specs.Prelude.{◌≡◌, Bool, true, false, List, [], ◌∷◌}
use Rattle.wire_core.specs.declared.names.Op.{Op}
use Rattle.wire_core.specs.declared.names.Op.TheVariants as Do
use Rattle.wire_core.specs.Deeds.{Deed}
use Rattle.wire_core.specs.Lists.{Passed, with_deed}
use Rattle.seat_wires.specs.Places.Are.{SeatsAre}
use Rattle.seat_wires.specs.Places.{SeatDid, seat_end}
use Rattle.actor_set.specs.Actors.{FitsActor, ActorStandsFor, ActorTurned, IsActorCall}
use Rattle.actor_set.specs.Actors.{actor_rests, part_of}
use Rattle.actor_set.specs.declared.actor.Actor.{Actor}

-- a call, with the actor and its ends as they are then
pub record Call : Type 0 where
  pub deed : Deed
  pub actor : Actor
  pub seats : SeatsAre

-- a call that looks whether a notification is pending at one's own end, or wants none there
abbrev pub is_waiting : Op → Bool
is_waiting (Do.Wake s) = true
is_waiting (Do.Waive s) = true
is_waiting Do.See = false
is_waiting Do.Room = false
is_waiting Do.Take = false
is_waiting Do.Put = false
is_waiting (Do.Ask s) = false
is_waiting (Do.Wanted s) = false
is_waiting (Do.Settle s) = false
is_waiting (Do.Ring s) = false
is_waiting (Do.Store w v) = false

-- an actor made this call at an end of its own, and fits its ends then: it was its turn, or that of
-- a hostile client's next act; whatever it stood for, it now stands for that with what the call
-- moved; at rest it only looked for a notification or wanted none
pub record Made (x : Actor) (s : SeatsAre) (c : Call) : Type 0 where
  pub did : SeatDid s c.deed c.seats
  pub own : IsActorCall x c.deed.event
  pub turned : ActorTurned x c.deed.event c.actor
  pub due : actor_rests x ≡ true → is_waiting c.deed.event.op ≡ true
  pub part : part_of c.actor ≡ part_of x
  pub kept : (p : Passed) → ActorStandsFor x p → ActorStandsFor c.actor (with_deed p c.deed)
  pub fits : FitsActor (seat_end c.seats) c.actor

-- an actor made these calls, and came by them to be what it is, with its ends
abbrev pub Goes : Actor → SeatsAre → List Call → Actor → SeatsAre → Type 0
Goes x s [] y t = (y ≡ x) × (t ≡ s)
Goes x s (c ∷ cs) y t = Made x s c × Goes c.actor c.seats cs y t

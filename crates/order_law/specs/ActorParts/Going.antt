-- Actors apart that were at work: what each did at its ends since then, call by call.
use Rattle.std.specs.Prelude.{◌≡◌, ℕ, List}
use Rattle.wire_core.specs.Ends.{Role}
use Rattle.spsc_queue.specs.Known.Ends.{RingIs}
use Rattle.seat_wires.specs.Places.Are.{SeatsAre}
use Rattle.seat_wires.specs.Places.{ends_of, stands_at}
use Rattle.order_law.specs.Tales.{Call, Goes}
use Rattle.order_law.specs.ActorParts.Parting.{Apart, ends_at, end_in}

-- at each place of these seats stands the end that the actor apart has of that queue, if it has one
pub record AreSeatsOf (rings : List RingIs) (p : Apart) (s : SeatsAre) : Type 0 where
  pub rings_are : s.rings ≡ rings
  pub same : (r : Role) (n : ℕ) → stands_at (ends_of s r) n ≡ end_in (ends_at p r) n

-- the same actor after what it did at its ends, call by call
pub record HasGone (rings : List RingIs) (old new : Apart) : Type 0 where
  pub before : SeatsAre
  pub after : SeatsAre
  pub began : AreSeatsOf rings old before
  pub ended : AreSeatsOf rings new after
  pub calls : List Call
  pub goes : Goes old.actor before calls new.actor after

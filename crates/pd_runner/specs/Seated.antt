-- Actors apart at work: each with its ends by place, and with their numbers again.
use Rattle.std.specs.Prelude.{◌≡◌, ◌≤◌, ℕ, List, Option, None, length}
use Rattle.wire_core.specs.declared.names.QueueId.{QueueId}
use Rattle.spsc_queue.specs.Known.Ends.{EndIs, RingIs}
use Rattle.seat_wires.specs.Places.{stands_at}
use Rattle.order_law.specs.ActorParts.Given.{Kept, apart_of}
use Rattle.order_law.specs.ActorParts.Going.{AreSeatsOf}
use Rattle.order_law.specs.ActorParts.Numbered.{numbered}
use Rattle.order_law.specs.ActorParts.Parting.{StandsApart}
use Rattle.order_law.specs.ActorParts.Placing.{placed}
use Rattle.pd_runner.specs.declared.part.Part.{Part}
use Rattle.pd_runner.specs.Running.{IsReady, part_seats}

-- each of these ends is at its queue's place, of so many at which nothing stood
abbrev pub ArePlaced : (many : ℕ) → List (QueueId × EndIs) → List (Option EndIs) → Type 0
ArePlaced many ends places = (start : List (Option EndIs)) × ((n : ℕ) → stands_at start n ≡ None)
    × (length start ≡ many) × (places ≡ placed ends start)

-- this one stands apart
abbrev pub IsApart : List RingIs → Kept → Type 0
IsApart rings k = StandsApart rings (apart_of k)

-- the actor at its ends by place: of each queue stands there the end that it has, if it has one
pub record IsSeated (rings : List RingIs) (k : Kept) (p : Part) : Type 0 where
  pub worker : p.worker ≡ k.0
  pub seats : AreSeatsOf rings (apart_of k) (part_seats rings p)
  pub ready : IsReady rings p

-- it has no more places than there are numbers of queues
pub record HasNumbers (p : Part) : Type 0 where
  pub producers : length p.producers.items ≤ 65536
  pub consumers : length p.consumers.items ≤ 65536

-- the actor with its ends, each with the number of its place
pub record IsNumbered (p : Part) (k : Kept) : Type 0 where
  pub worker : k.0 ≡ p.worker
  pub producers : k.1.items ≡ numbered 0 p.producers.items
  pub consumers : k.2.items ≡ numbered 0 p.consumers.items

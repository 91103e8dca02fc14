-- What contracts see of the ends of one actor.
use Rattle.std.specs.Prelude.{List, Option}
use Rattle.spsc_queue.specs.Known.Ends.{EndIs, RingIs}

-- the rings, and the ends of the actor, each at its queue's place
pub record SeatsAre : Type 0 where
  pub rings : List RingIs
  pub producers : List (Option EndIs)
  pub consumers : List (Option EndIs)

-- Calls after calls.
use Rattle.std.proofs.Common.{List, [], ◌∷◌, ◌++◌, refl, subst}
use Rattle.seat_wires.specs.Places.Are.{SeatsAre}
use Rattle.actor_set.specs.declared.actor.Actor.{Actor}
use Rattle.order_law.specs.Tales.{Call, Made, Goes}

pub goes_then : (x : Actor) (s : SeatsAre) (cs : List Call) (y : Actor) (t : SeatsAre) (ds : List Call) (z : Actor) (u : SeatsAre) → Goes x s cs y t → Goes y t ds z u → Goes x s (cs ++ ds) z u
goes_then x s [] y t ds z u g h = subst (λ (w : Actor × SeatsAre). Goes w.0 w.1 ds z u) (λ i. (g.0 i, g.1 i)) h
goes_then x s (c ∷ cs) y t ds z u g h = (g.0, goes_then c.actor c.seats cs y t ds z u g.1 h)

-- one call more
pub goes_on : (x : Actor) (s : SeatsAre) (cs : List Call) (y : Actor) (t : SeatsAre) (c : Call) → Goes x s cs y t → Made y t c → Goes x s (cs ++ c ∷ []) c.actor c.seats
goes_on x s cs y t c g made = goes_then x s cs y t (c ∷ []) c.actor c.seats g (made, (refl, refl))

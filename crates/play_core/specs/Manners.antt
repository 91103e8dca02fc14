-- How an actor goes about: a calm one by what it wants of its ends, a hostile one by what it still
-- has to do.
use Rattle.std.specs.Prelude.{◌==◌, ℕ, Bool, true, false, cond, List, [], ◌∷◌}
use Rattle.wire_core.specs.declared.names.Entry.{Entry}
use Rattle.wire_core.specs.declared.names.Event.{Event}
use Rattle.wire_core.specs.Journal.{Hostiles}

-- the calls that an actor made
abbrev pub calls_of : ℕ → List Entry → List Event
calls_of a [] = []
calls_of a (e ∷ es) = cond (e.actor.0 == a) (e.event ∷ calls_of a es) (calls_of a es)

-- a calm actor rests where its ends are settled, and goes on where it is notified; a hostile one
-- rests where it is done, by the calls that it made, and goes on for no notification
pub data Manner : Type 0 where
  Calm : Manner
  Hostile : (done : List Event → Bool) → Manner

-- of each actor, how it goes about
abbrev pub Manners : Type 0
Manners = ℕ → Manner

-- whether it is the manner of a hostile actor
abbrev pub is_hostile : Manner → Bool
is_hostile Calm = false
is_hostile (Hostile done) = true

-- which actors are hostile
abbrev pub hostile_by : Manners → Hostiles
hostile_by manner actor = is_hostile (manner actor)

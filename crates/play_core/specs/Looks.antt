-- Looks in vain: what a journal tells of them, and at which of its entries something is dropped.
use Rattle.std.specs.Prelude.{◌+◌, ◌||◌, ℕ, false, List, [], ◌∷◌, map}
use Rattle.wire_core.specs.declared.names.Entry.{Entry}
use Rattle.wire_core.specs.declared.names.Event.{Event}
use Rattle.wire_core.specs.Fates.{is_vain_at}
use Rattle.wire_core.specs.Marks.{Drops}
use Rattle.play_core.specs.Moved.{Moved, Seat}

-- the calls that a journal tells
abbrev pub events_of : List Entry → List Event
events_of journal = map (λ (e : Entry). e.event) journal

-- where the actors of these ends drop what they have no room for, each look in vain there is a drop
abbrev pub drops_at : List Seat → Drops
drops_at [] e = false
drops_at (s ∷ seats) e = is_vain_at s.role s.queue e.event || drops_at seats e

-- how often these ends looked in vain, together
abbrev pub noes_together : List Seat → Moved → ℕ
noes_together [] m = 0
noes_together (s ∷ seats) m = m.noes s.role s.queue + noes_together seats m

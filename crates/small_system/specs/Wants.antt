-- What actors want of their ends, and who is runnable by that.
use Rattle.std.specs.Prelude.{◌≡◌, ◌+◌, ℕ, zero, suc, Some, List, [], ◌∷◌, length, map, slice_get}
use Rattle.wire_core.specs.declared.names.QueueRow.{QueueRow}
use Rattle.wire_core.specs.declared.names.Event.{Event}
use Rattle.wire_core.specs.declared.names.Entry.{Entry}
use Rattle.wire_core.specs.Journal.{start_history}
use Rattle.turn_kit.specs.Turns.{is_at_rest}
use Rattle.play_core.specs.Moved.{Moved, moved}
use Rattle.play_core.specs.Wants.{Want, Needful, all_settled}
use Rattle.play_core.specs.Manners.{Manners, Calm}
use Rattle.play_core.specs.Runs.{runnable}
use Rattle.small_system.specs.Meanings.{Means}
use Rattle.small_system.specs.Tales.{Moment, Turn, journal_of}

-- what the actor of each number wants, by the items that went through the queues and by the order
-- of all calls
abbrev pub Wanting : Type 0
Wanting = ℕ → Moved → List Event → List Want

-- the calls of a journal
abbrev pub calls_in : List Entry → List Event
calls_in journal = map (λ (e : Entry). e.event) journal

-- what so many actors want, from number k on
abbrev pub wanted_from : Wanting → (k count : ℕ) → Moved → List Event → Needful
wanted_from wants k zero moves calls = []
wanted_from wants k (suc count) moves calls =
    wants k moves calls ∷ wanted_from wants (k + 1) count moves calls

-- what each of so many actors wants after a journal
abbrev pub wanted_by : Wanting → List QueueRow → (count : ℕ) → List Entry → Needful
wanted_by wants rows count journal =
    wanted_from wants 0 count (moved (start_history rows) journal) (calls_in journal)

-- each actor is a calm one
abbrev pub calm : Manners
calm k = Calm

-- the actors that are runnable by what they want
abbrev pub runs_by : Wanting → List QueueRow → (count : ℕ) → List Entry → List ℕ
runs_by wants rows count journal =
    runnable calm (start_history rows) rows (wanted_by wants rows count journal) journal

-- each actor rests exactly where all that it wants is settled
abbrev pub RestsBy : {A : Type 0} → Means A → Wanting → List QueueRow → Moment A → List Entry
    → Type 0
RestsBy {A} m wants rows mo journal = (k : ℕ) (x : A) → slice_get mo.actors k ≡ Some x
    → is_at_rest (m.round x)
    ≡ all_settled (start_history rows) journal
    (wants k (moved (start_history rows) journal) (calls_in journal))

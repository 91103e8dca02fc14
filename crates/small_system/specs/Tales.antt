-- The moments of a play, and the tale of its turns.
use Rattle.std.specs.Prelude.{◌≡◌, ◌+◌, ◌||◌, ℕ, Bool, true, not, Some, List, [], ◌∷◌, ◌++◌, map}
use Rattle.std.specs.Prelude.{length, slice_get, slice_set}
use Rattle.wire_core.specs.declared.names.QueueRow.{QueueRow}
use Rattle.wire_core.specs.declared.names.Entry.{Entry}
use Rattle.wire_core.specs.Deeds.{Deed}
use Rattle.wire_core.specs.Lists.{Passed, with_deed, nothing_passed}
use Rattle.wire_core.specs.Queues.{Queue, Happens, queue_at, end_at, after, starts, is_pending}
use Rattle.wire_core.specs.Picks.{next_seed, place_of}
use Rattle.turn_kit.specs.Turns.{is_at_rest}
use Rattle.play_core.specs.Runs.{places_from}
use Rattle.small_system.specs.Meanings.{Means, Steps}

-- the queues and the actors at a moment
pub record Moment (A : Type 0) : Type 0 where
  pub world : List Queue
  pub actors : List A

-- the moment at which a play begins: the queues of the rows are in their start state
abbrev pub start_of : {A : Type 0} → List QueueRow → List A → Moment A
start_of {A} rows actors = record { world = starts rows; actors = actors }

-- actor k isn't at rest, or a notification is pending for it
abbrev pub is_runnable : {A : Type 0} → Means A → List Queue → ℕ → A → Bool
is_runnable {A} m world k x = not (is_at_rest (m.round x)) || is_pending k world

-- whether each actor is runnable, from number k on
abbrev pub flags_in : {A : Type 0} → Means A → List Queue → ℕ → List A → List Bool
flags_in {A} m world k [] = []
flags_in {A} m world k (x ∷ xs) = is_runnable m world k x ∷ flags_in m world (k + 1) xs

-- the runnable actors, in their order
abbrev pub running_in : {A : Type 0} → Means A → Moment A → List ℕ
running_in {A} m mo = places_from 0 (flags_in m mo.world 0 mo.actors)

-- a turn: the number of the actor, what it did, and what it is then
pub record Turn (A : Type 0) : Type 0 where
  pub number : ℕ
  pub deed : Deed
  pub actor : A

-- the queues after a call
abbrev pub world_after : List Queue → Deed → List Queue
world_after world d =
    slice_set world d.event.queue.0 (after (queue_at world d.event.queue.0) d)

-- the moment after a turn
abbrev pub moment_after : {A : Type 0} → Moment A → Turn A → Moment A
moment_after {A} mo t = record {
  world = world_after mo.world t.deed;
  actors = slice_set mo.actors t.number t.actor;
}

-- a turn of an actor that was runnable by its own state: one call of it happened
pub record IsTurn {A : Type 0} (m : Means A) (mo : Moment A) (t : Turn A) : Type 0 where
  pub old : A
  pub there : slice_get mo.actors t.number ≡ Some old
  pub runs : is_runnable m mo.world t.number old ≡ true
  pub happened : Happens mo.world t.deed (world_after mo.world t.deed)
  pub steps : Steps m old t.actor t.deed
  pub fits : m.Fits (end_at (world_after mo.world t.deed)) t.actor

-- one turn after another
abbrev pub IsTale : {A : Type 0} → Means A → Moment A → List (Turn A) → Type 0
IsTale {A} m mo [] = Unit {0}
IsTale {A} m mo (t ∷ ts) = IsTurn m mo t × IsTale m (moment_after mo t) ts

-- the moment after these turns
abbrev pub after_tale : {A : Type 0} → Moment A → List (Turn A) → Moment A
after_tale {A} mo [] = mo
after_tale {A} mo (t ∷ ts) = after_tale (moment_after mo t) ts

-- the entry of a turn in the journal
abbrev pub entry_of : {A : Type 0} → Turn A → Entry
entry_of {A} t = record { actor = record { 0 = t.number }; event = t.deed.event }

-- the journal of turns: one entry each
abbrev pub journal_of : {A : Type 0} → List (Turn A) → List Entry
journal_of {A} ts = map entry_of ts

-- what passed after these turns, where so much had passed before
abbrev pub passed_from : {A : Type 0} → Passed → List (Turn A) → Passed
passed_from {A} p [] = p
passed_from {A} p (t ∷ ts) = passed_from (with_deed p t.deed) ts

-- what passed by these turns
abbrev pub passed_by : {A : Type 0} → List (Turn A) → Passed
passed_by {A} ts = passed_from nothing_passed ts

-- each turn is that of the actor that is picked among those that are runnable by their own states
abbrev pub PickedBy : {A : Type 0} → Means A → Moment A → ℕ → List (Turn A) → Type 0
PickedBy {A} m mo seed [] = Unit {0}
PickedBy {A} m mo seed (t ∷ ts) =
    (slice_get (running_in m mo) (place_of (next_seed seed) (length (running_in m mo)))
    ≡ Some t.number)
    × PickedBy m (moment_after mo t) (next_seed seed) ts

-- P of each moment of a tale and of the turns that led there
abbrev pub Along : {A : Type 0} → (Moment A → List (Turn A) → Type 0) → Moment A
    → (before : List (Turn A)) → List (Turn A) → Type 0
Along {A} P mo before [] = P mo before
Along {A} P mo before (t ∷ ts) =
    P mo before × Along P (moment_after mo t) (before ++ t ∷ []) ts

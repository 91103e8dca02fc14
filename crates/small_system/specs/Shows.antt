-- What a player shows, and what a play does to it.
use Rattle.std.specs.Prelude.{◌≡◌, ◌≤◌, ◌+◌, ◌++◌, ◌∷◌, ℕ, Bool, Option, Some, List, [], length}
use Rattle.std.specs.Prelude.{slice_get}
use Rattle.wire_core.specs.declared.names.QueueRow.{QueueRow}
use Rattle.wire_core.specs.declared.names.Entry.{Entry}
use Rattle.wire_core.specs.Lists.{Passed}
use Rattle.wire_core.specs.Queues.{Queue}
use Rattle.small_system.specs.Meanings.{Means}
use Rattle.small_system.specs.Tales.{Moment, Turn, start_of, is_runnable, running_in, IsTurn}
use Rattle.small_system.specs.Tales.{moment_after, entry_of, IsTale, after_tale, journal_of}
use Rattle.small_system.specs.Tales.{PickedBy}
use Rattle.small_system.specs.Standing.{Begins, Holds}

-- what a player shows: its rows, its actors as they were at the start, queues and actors as they
-- are, and the one journal
pub record Shown (A : Type 0) : Type 0 where
  pub rows : List QueueRow
  pub start : List A
  pub moment : Moment A
  pub journal : List Entry

-- what is shown of these
abbrev pub shown : {A : Type 0} → List QueueRow → (start : List A) → List Queue
    → (actors : List A) → List Entry → Shown A
shown {A} rows start world actors journal = record {
  rows = rows;
  start = start;
  moment = record { world = world; actors = actors };
  journal = journal;
}

-- the tale of these turns is how it came to be as it is, and the journal has one entry for each
pub record IsToldBy {A : Type 0} (m : Means A) (s : Shown A) (turns : List (Turn A)) : Type 0 where
  pub tale : IsTale m (start_of s.rows s.start) turns
  pub moment : s.moment ≡ after_tale (start_of s.rows s.start) turns
  pub journal : s.journal ≡ journal_of turns

-- a tale of turns from the start state on tells all of it
pub record IsTold {A : Type 0} (m : Means A) (s : Shown A) : Type 0 where
  pub begins : Begins m s.rows s.start
  pub turns : List (Turn A)
  pub told : IsToldBy m s turns

-- all holds as it is, and each actor stands for what passed
pub record Stands {A : Type 0} (m : Means A) (s : Shown A) : Type 0 where
  pub passed : Passed
  pub holds : Holds m s.rows s.moment passed s.journal

-- nobody is runnable
abbrev pub IsQuiet : {A : Type 0} → Means A → Shown A → Type 0
IsQuiet {A} m s = running_in m s.moment ≡ []

-- it was played on by turns that the seed picks, at most so many
pub record Played {A : Type 0} (m : Means A) (old new : Shown A) (seed limit : ℕ) : Type 0 where
  pub rows : new.rows ≡ old.rows
  pub start : new.start ≡ old.start
  pub turns : List (Turn A)
  pub tale : IsTale m old.moment turns
  pub picked : PickedBy m old.moment seed turns
  pub moment : new.moment ≡ after_tale old.moment turns
  pub journal : new.journal ≡ old.journal ++ journal_of turns
  pub within : length turns ≤ limit

-- so many steps were made, and some actor is runnable
pub record IsSpent {A : Type 0} (m : Means A) (old new : Shown A) (limit : ℕ) : Type 0 where
  pub count : length new.journal ≡ length old.journal + limit
  pub goes_on : IsQuiet m new → ⊥

-- the actor at a place among the runnable ones made one turn more
pub record StepsAt {A : Type 0} (m : Means A) (place : ℕ) (old new : Shown A) : Type 0 where
  pub turn : Turn A
  pub there : slice_get (running_in m old.moment) place ≡ Some turn.number
  pub happens : IsTurn m old.moment turn
  pub rows : new.rows ≡ old.rows
  pub start : new.start ≡ old.start
  pub moment : new.moment ≡ moment_after old.moment turn
  pub journal : new.journal ≡ old.journal ++ entry_of turn ∷ []

-- whether the actor that is rung, if one is, is runnable now is asked of that actor
abbrev pub IsAsked : {A : Type 0} → Means A → List A → List Queue → Option ℕ → Bool → Type 0
IsAsked {A} m actors world rung runs = (k : ℕ) → rung ≡ Some k
    → (x : A) × (slice_get actors k ≡ Some x) × (runs ≡ is_runnable m world k x)

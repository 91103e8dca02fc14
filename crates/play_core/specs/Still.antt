-- A moment at which no actor is runnable, and what a class's argument takes of it: its actors and
-- its queues.
use Rattle.std.specs.Prelude.{◌≡◌, ◌<◌, ◌≤◌, ℕ, Bool, true, false, Some, List, [], length}
use Rattle.std.specs.Prelude.{slice_get}
use Rattle.wire_core.specs.declared.names.QueueRow.{QueueRow}
use Rattle.wire_core.specs.declared.names.Entry.{Entry}
use Rattle.wire_core.specs.Ends.{Role}
use Rattle.wire_core.specs.Journal.{History, Hostiles, is_calm, BellsHold, QueuesFlow, owner_of}
use Rattle.play_core.specs.Moved.{Moved}
use Rattle.play_core.specs.Wants.{Want, Needful, all_settled, intake_want, outlet_want}
use Rattle.play_core.specs.Manners.{Manners, hostile_by}
use Rattle.play_core.specs.Runs.{called_from, runnable}
use Rattle.play_core.specs.Sheets.{Sheet}

-- each queue's owners are among so many actors
abbrev pub IsPeopled : List QueueRow → ℕ → Type 0
IsPeopled rows count = (n : ℕ) (row : QueueRow) → slice_get rows n ≡ Some row → (r : Role)
    → owner_of row r < count

-- each queue can hold an entry
abbrev pub HasPlaces : List QueueRow → Type 0
HasPlaces rows = (n : ℕ) (row : QueueRow) → slice_get rows n ≡ Some row → 0 < row.capacity

-- a system in which nobody is runnable
pub record IsQuiet (manner : Manners) (history : History) (rows : List QueueRow) (actors : Needful)
    (journal : List Entry) : Type 0 where
  pub bells_hold : BellsHold (hostile_by manner) history rows journal
  pub flows : QueuesFlow history rows journal
  pub peopled : IsPeopled rows (length actors)
  pub quiet : runnable manner history rows actors journal ≡ []

-- a moment at which no actor is runnable, but perhaps a hostile one: all ends are settled, and
-- nobody is called
pub record IsStill (hostile : Hostiles) (history : History) (rows : List QueueRow)
    (actors : Needful) (journal : List Entry) : Type 0 where
  pub bells_hold : BellsHold hostile history rows journal
  pub flows : QueuesFlow history rows journal
  pub peopled : IsPeopled rows (length actors)
  pub settled : (k : ℕ) (ws : List Want) → hostile k ≡ false → slice_get actors k ≡ Some ws
      → all_settled history journal ws ≡ true
  pub uncalled : (k : ℕ) → hostile k ≡ false → k < length actors
      → called_from k 0 history rows journal ≡ false

-- one of the actors, which isn't hostile, has these ends
pub record Acts (hostile : Hostiles) (actors : Needful) (ends : List Want) : Type 0 where
  pub actor : ℕ
  pub calm : hostile actor ≡ false
  pub there : slice_get actors actor ≡ Some ends

-- one of the actors is of this sheet, and isn't hostile: it has the sheet's ends, and its row holds
pub record Plays (hostile : Hostiles) (actors : Needful) (m : Moved) (s : Sheet) : Type 0 where
  pub acts : Acts hostile actors (s.wants m)
  pub row : s.row m

-- one of the actors has this end, and needs it as told
pub record HasWant (hostile : Hostiles) (actors : Needful) (w : Want) : Type 0 where
  pub ends : List Want
  pub acts : Acts hostile actors ends
  pub place : ℕ
  pub is : slice_get ends place ≡ Some w

-- queue n is there, has no hostile end, and can hold at least so many entries
pub record Holds (hostile : Hostiles) (rows : List QueueRow) (n least : ℕ) : Type 0 where
  pub row : QueueRow
  pub there : slice_get rows n ≡ Some row
  pub calm : is_calm hostile row ≡ true
  pub enough : least ≤ row.capacity

-- the consumer of queue n is there and needs an entry, or not
abbrev pub Needs : Hostiles → Needful → ℕ → Bool → Type 0
Needs hostile actors n need = HasWant hostile actors (intake_want n need)

-- the producer of queue n is there and owes an entry, or not
abbrev pub Owes : Hostiles → Needful → ℕ → Bool → Type 0
Owes hostile actors n owed = HasWant hostile actors (outlet_want n owed)

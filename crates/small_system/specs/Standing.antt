-- What a play begins with, and what holds at each moment of it.
use Rattle.std.specs.Prelude.{◌≡◌, ◌≤◌, ℕ, false, Some, List, ◌++◌, length, map, slice_get}
use Rattle.cargo_core.specs.Items.{kind_of}
use Rattle.wire_core.specs.declared.names.QueueRow.{QueueRow}
use Rattle.wire_core.specs.declared.names.Entry.{Entry}
use Rattle.wire_core.specs.Deeds.{Cargo}
use Rattle.wire_core.specs.Ends.{Role}
use Rattle.wire_core.specs.Lists.{Passed, nothing_passed}
use Rattle.wire_core.specs.Queues.{queue_at, end_at, starts, items_of}
use Rattle.wire_core.specs.Journal.{track, start_history, IsShown, LegalJournal, EachMoment}
use Rattle.wire_core.specs.Journal.{BellsHold, QueuesFlow, nobody}
use Rattle.wire_core.specs.Marks.{no_drops, since, Brisk}
use Rattle.wire_core.specs.Sizes.{AreSized}
use Rattle.turn_kit.specs.Turns.{IsRound}
use Rattle.turn_kit.specs.Pace.{Paced, pendings}
use Rattle.play_core.specs.Sheets.{IsSeat}
use Rattle.play_core.specs.Still.{IsPeopled}
use Rattle.small_system.specs.Meanings.{Means, Own}
use Rattle.small_system.specs.Tales.{Moment}

-- each of these actors has just the ends that the rows give its place
pub record AreSeated {A : Type 0} (m : Means A) (rows : List QueueRow) (actors : List A) : Type 0
  where
    pub given : (k : ℕ) (x : A) → slice_get actors k ≡ Some x → (r : Role) (n : ℕ) → Own m x r n
        → IsSeat rows k (record { queue = n; role = r })
    pub all : (k : ℕ) (x : A) → slice_get actors k ≡ Some x → (r : Role) (n : ℕ)
        → IsSeat rows k (record { queue = n; role = r }) → Own m x r n

-- rows and actors with which a play may begin: queues can be made of the rows, their owners are
-- among the actors, each actor has just the ends that the rows give its place, in their start
-- state, which are a round, and it stands for empty lists
pub record Begins {A : Type 0} (m : Means A) (rows : List QueueRow) (actors : List A) : Type 0
  where
    pub sized : AreSized rows
    pub peopled : IsPeopled rows (length actors)
    pub few : length actors ≤ 65536
    pub seated : AreSeated m rows actors
    pub fits : (k : ℕ) (x : A) → slice_get actors k ≡ Some x → m.Fits (end_at (starts rows)) x
    pub rounds : (k : ℕ) (x : A) → slice_get actors k ≡ Some x → IsRound (m.round x)
    pub stands : (k : ℕ) (x : A) → slice_get actors k ≡ Some x → m.StandsFor x nothing_passed

-- queues, actors, what passed and the journal belong together
pub record Holds {A : Type 0} (m : Means A) (rows : List QueueRow) (mo : Moment A)
    (passed : Passed) (journal : List Entry) : Type 0 where
  -- in each queue stands what was put there and wasn't taken
  pub stands_there : (n : ℕ) → passed.sent n ≡ passed.taken n ++ (queue_at mo.world n).entries
  -- the journal shows the items of what was taken and put, and its calls are those that passed
  pub shows_taken : (n : ℕ) → items_of (passed.taken n)
      ≡ (track (start_history rows) n journal).taken
  pub shows_sent : (n : ℕ) → items_of (passed.sent n)
      ≡ (track (start_history rows) n journal).sent
  pub calls : passed.calls ≡ map (λ (e : Entry). e.event) journal
  -- what was put to a queue is of its kind
  pub kinds : (n : ℕ) (row : QueueRow) → slice_get rows n ≡ Some row → (k : ℕ) (c : Cargo)
      → slice_get (passed.sent n) k ≡ Some c → kind_of c.0 ≡ row.kind
  pub size : length mo.world ≡ length rows
  -- each queue is what the journal shows of it, and no word was stored there
  pub queues : (n : ℕ) (row : QueueRow) → slice_get rows n ≡ Some row
      → IsShown row (queue_at mo.world n) (track (start_history rows) n journal)
  pub unstored : (n : ℕ) → (queue_at mo.world n).indices.stored ≡ false
  -- each actor fits its ends, and stands for what passed
  pub fits : (k : ℕ) (x : A) → slice_get mo.actors k ≡ Some x → m.Fits (end_at mo.world) x
  pub stands : (k : ℕ) (x : A) → slice_get mo.actors k ≡ Some x → m.StandsFor x passed
  -- it has just the ends that the rows give its place
  pub seated : AreSeated m rows mo.actors
  -- what it did since its last mark
  pub paced : (k : ℕ) (x : A) → slice_get mo.actors k ≡ Some x
      → Paced (pendings (start_history rows) journal) (since no_drops k journal) (m.round x)
  pub peopled : IsPeopled rows (length mo.actors)
  pub few : length mo.actors ≤ 65536
  pub legal : LegalJournal nobody (start_history rows) rows journal

-- each queue hands over what was put, once and in order, each call is in discipline, at each moment
-- bells and queues hold, and between two marks no actor makes more than 8 calls on an end
pub record IsLawful (rows : List QueueRow) (journal : List Entry) : Type 0 where
  pub legal : LegalJournal nobody (start_history rows) rows journal
  pub bells_hold : EachMoment (BellsHold nobody (start_history rows) rows) journal
  pub flows : EachMoment (QueuesFlow (start_history rows) rows) journal
  pub brisk : Brisk nobody rows no_drops journal

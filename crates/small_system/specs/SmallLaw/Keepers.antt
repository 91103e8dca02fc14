-- What the actors of a class keep in hand.
use Rattle.std.specs.Prelude.{◌≡◌, ℕ, Some, List, length, slice_get}
use Rattle.wire_core.specs.declared.names.QueueRow.{QueueRow}
use Rattle.wire_core.specs.Lists.{Passed}
use Rattle.wire_core.specs.Journal.{nobody}
use Rattle.play_core.specs.Moved.{Moved, Seat}
use Rattle.play_core.specs.Sheets.{AreApart}
use Rattle.play_core.specs.Rests.Showing.{HaveItems}
use Rattle.owner_law.specs.Things.{Window, Answers, Naming}
use Rattle.owner_law.specs.Keeping.{Keeper, Keeps, all_taken, all_put, AreDealt, IsNaming}
use Rattle.small_system.specs.Meanings.{Means, Own, IsFit}

-- an actor that began as this one has these ends, each once, and whatever it stands for, it put
-- only what was in its hand
pub record HasKeeper {A : Type 0} (m : Means A) (naming : Naming) (x : A) (p : Keeper) : Type 0
  where
    pub given : (i : ℕ) (s : Seat) → slice_get p.ends i ≡ Some s → Own m x s.role s.queue
    pub all : (s : Seat) → Own m x s.role s.queue → (i : ℕ) × (slice_get p.ends i ≡ Some s)
    pub apart : AreApart p.ends
    pub keeps : (y : A) → m.part y ≡ m.part x → IsFit m y → (passed : Passed)
        → m.StandsFor y passed → (moves : Moved) → HaveItems passed moves
        → Keeps p.hand (all_taken naming moves p.ends) (all_put naming moves p.ends)

-- each actor has such a keeper, items name buffers at queues that are there, none answers another,
-- and no buffer is in two hands at the start
pub record HaveKeepers {A : Type 0} (m : Means A) (naming : Naming) (lender : ℕ)
    (rows : List QueueRow) (start : List A) (keepers : List Keeper) : Type 0 where
  pub naming_is : IsNaming naming lender nobody rows
  pub unanswered : (n q : ℕ) (ws : List Window) → naming n ≡ Answers q ws → ⊥
  pub many : length keepers ≡ length start
  pub each : (k : ℕ) (x : A) (p : Keeper) → slice_get start k ≡ Some x
      → slice_get keepers k ≡ Some p → HasKeeper m naming x p
  pub dealt : AreDealt keepers

-- A moment at which all actors kept to what was in their hands.
use Rattle.std.specs.Prelude.{◌≡◌, ℕ, Some, List, slice_get}
use Rattle.wire_core.specs.declared.names.QueueRow.{QueueRow}
use Rattle.wire_core.specs.declared.names.Entry.{Entry}
use Rattle.wire_core.specs.Journal.{History, Hostiles, QueuesFlow}
use Rattle.play_core.specs.Moved.{moved}
use Rattle.owner_law.specs.Things.{Naming}
use Rattle.owner_law.specs.Keeping.{Keeper, Keeps, all_taken, all_put, IsNaming, AreKeepers}

-- after a journal queues hand over what was put there, and each actor has just the ends that the
-- rows give it, and put only what was in its hand
pub record KeepTheirs (naming : Naming) (lender : ℕ) (hostile : Hostiles) (history : History)
    (rows : List QueueRow) (keepers : List Keeper) (journal : List Entry) : Type 0 where
  pub naming_is : IsNaming naming lender hostile rows
  pub keepers_are : AreKeepers rows keepers
  pub flows : QueuesFlow history rows journal
  pub keeps : (k : ℕ) (p : Keeper) → slice_get keepers k ≡ Some p → Keeps p.hand
      (all_taken naming (moved history journal) p.ends)
      (all_put naming (moved history journal) p.ends)

-- Actors that are ready to be set apart.
use Rattle.std.specs.Prelude.{◌≡◌, ℕ, Some, List, slice_get}
use Rattle.wire_core.specs.declared.names.QueueRow.{QueueRow}
use Rattle.wire_core.specs.Ends.{Role}
use Rattle.wire_core.specs.Journal.{owner_of}
use Rattle.wire_core.specs.Lists.{nothing_passed}
use Rattle.wire_core.specs.Queues.{starts, end_at}
use Rattle.actor_set.specs.Actors.{FitsActor, ActorStandsFor, ActorEnd}
use Rattle.actor_set.specs.declared.actor.Actor.{Actor}

-- each actor fits the queues of these rows in their start state, nothing passed there, and its ends
-- are its own by the rows
pub record AreReady (rows : List QueueRow) (actors : List Actor) : Type 0 where
  pub fits : (k : ℕ) (x : Actor) → slice_get actors k ≡ Some x → FitsActor (end_at (starts rows)) x
  pub stands : (k : ℕ) (x : Actor) → slice_get actors k ≡ Some x → ActorStandsFor x nothing_passed
  pub owners : (k : ℕ) (x : Actor) → slice_get actors k ≡ Some x → (r : Role) (n : ℕ)
      → ActorEnd x r n → (row : QueueRow) × (slice_get rows n ≡ Some row) × (owner_of row r ≡ k)

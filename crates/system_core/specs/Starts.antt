-- How a system starts: its actors and queues in their start states, and each actor fits its queues.
use Rattle.std.specs.Prelude.{◌≡◌, ◌<◌, ◌≤◌, ℕ, Some, List, length, slice_get}
use Rattle.wire_core.specs.declared.names.QueueRow.{QueueRow}
use Rattle.wire_core.specs.Ends.{Role}
use Rattle.wire_core.specs.Lists.{nothing_passed}
use Rattle.wire_core.specs.Queues.{starts, end_at}
use Rattle.wire_core.specs.Journal.{owner_of}
use Rattle.turn_kit.specs.Turns.{IsRound}
use Rattle.play_core.specs.Manners.{Calm}
use Rattle.client_programs.specs.declared.rogue.Rogue.{Rogue}
use Rattle.client_programs.specs.Rogue.Clients.{left_at_start, left_of}
use Rattle.actor_set.specs.Actors.{FitsActor, ActorStandsFor, ActorEnd, actor_round, part_of}
use Rattle.actor_set.specs.declared.actor.Actor.{Actor}
use Rattle.actor_set.specs.declared.actor.Actor.TheVariants as Kinds
use Rattle.actor_set.specs.Laws.Kinds.{manner_of}

-- actors in their start state at queues in theirs: each fits its ends, took and put nothing, and
-- owns its ends by the rows, which are a round unless it is hostile; a hostile one has all its acts
-- before it; and each queue's owners are there
pub record AreStarting (rows : List QueueRow) (actors : List Actor) : Type 0 where
  pub fits : (k : ℕ) (x : Actor) → slice_get actors k ≡ Some x → FitsActor (end_at (starts rows)) x
  pub stands : (k : ℕ) (x : Actor) → slice_get actors k ≡ Some x → ActorStandsFor x nothing_passed
  pub owners : (k : ℕ) (x : Actor) → slice_get actors k ≡ Some x → (r : Role) (n : ℕ)
      → ActorEnd x r n → (row : QueueRow) → slice_get rows n ≡ Some row → owner_of row r ≡ k
  pub rounds : (k : ℕ) (x : Actor) → slice_get actors k ≡ Some x → manner_of (part_of x) ≡ Calm
      → IsRound (actor_round x)
  pub acts : (k : ℕ) (r : Rogue) → slice_get actors k ≡ Some (Kinds.Rogue r)
      → left_at_start r ≡ left_of r
  pub peers : (n : ℕ) (row : QueueRow) → slice_get rows n ≡ Some row → (r : Role)
      → owner_of row r < length actors
  pub few : length actors ≤ 65536

-- Actors in their start state, each with the ends that the rows give it.
use Rattle.std.specs.Prelude.{◌≡◌, ◌<◌, ◌≤◌, ℕ, Some, List, length, map, slice_get}
use Rattle.wire_core.specs.declared.names.QueueRow.{QueueRow}
use Rattle.wire_core.specs.Ends.{Role, Consumer, Producer}
use Rattle.wire_core.specs.Journal.{owner_of}
use Rattle.cargo_core.specs.Capacities.{IsCapacity}
use Rattle.actor_set.specs.Actors.{ActorEnd, part_of}
use Rattle.actor_set.specs.declared.actor.Actor.{Actor}
use Rattle.actor_set.specs.StartStates.{IsNew, HasApartEnds, HasSeat, kind_at}
use Rattle.wired_law.specs.Wiring.{IsWired}

-- actors in their start state, each with the ends that the rows give it, and the owners of each
-- queue are there
pub record AreSeated (rows : List QueueRow) (actors : List Actor) : Type 0 where
  pub new : (k : ℕ) (x : Actor) → slice_get actors k ≡ Some x → IsNew x
  pub apart : (k : ℕ) (x : Actor) → slice_get actors k ≡ Some x → HasApartEnds x
  pub seats : (k : ℕ) (x : Actor) → slice_get actors k ≡ Some x → (r : Role) (n : ℕ)
      → ActorEnd x r n → HasSeat rows (kind_at x r n) k r n
  -- and each seat that the rows give an actor is one of its ends
  pub ends : (k : ℕ) (x : Actor) → slice_get actors k ≡ Some x → (n : ℕ) (row : QueueRow)
      → slice_get rows n ≡ Some row → (r : Role) → owner_of row r ≡ k → ActorEnd x r n
  -- no actor has both ends of a queue
  pub split : (k : ℕ) (x : Actor) → slice_get actors k ≡ Some x → (n : ℕ) → ActorEnd x Consumer n
      → ActorEnd x Producer n → ⊥
  -- the network's actors, if there are any, are a whole receive half at the layout's queues
  pub wired : IsWired rows (map part_of actors)
  -- each queue can hold an entry: its capacity is a power of two up to 32,768
  pub places : (n : ℕ) (row : QueueRow) → slice_get rows n ≡ Some row → IsCapacity row.capacity
  -- and each has a number of 16 bits
  pub numbered : length rows ≤ 65536
  pub peers : (n : ℕ) (row : QueueRow) → slice_get rows n ≡ Some row → (r : Role)
      → owner_of row r < length actors
  pub few : length actors ≤ 65536

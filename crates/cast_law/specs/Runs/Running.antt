-- Actors before they were at work over rings, and after.
use Rattle.std.specs.Prelude.{◌≡◌, ℕ, Some, List, map, slice_get}
use Rattle.wire_core.specs.declared.names.PoolRow.{PoolRow}
use Rattle.wire_core.specs.declared.names.QueueRow.{QueueRow}
use Rattle.wire_core.specs.Ends.{Role, End}
use Rattle.wire_core.specs.Lists.{Passed, nothing_passed}
use Rattle.play_core.specs.Moved.{Moved}
use Rattle.play_core.specs.Names.{names_at, wild_in}
use Rattle.play_core.specs.Rests.Showing.{HaveItems}
use Rattle.actor_set.specs.Actors.{FitsActor, ActorStandsFor, part_of}
use Rattle.actor_set.specs.declared.actor.Actor.{Actor}
use Rattle.actor_set.specs.Laws.Kinds.{hostiles, scene_of}
use Rattle.actor_set.specs.Laws.Scenes.{ToldInTurn}
use Rattle.wired_law.specs.Wiring.{ClientsSend}
use Rattle.cast_law.specs.Pools.Beside.{CastCarries, RoguesAsk}
use Rattle.cast_law.specs.Pools.Places.{PoolPlace, IsInPlace, IsPlaced}

-- the actors of a cast in place fit their ends, and nothing passed there
pub record AreReady (rows : List QueueRow) (actors : List Actor) : Type 0 where
  pub pools : List PoolRow
  pub in_place : IsInPlace rows pools (map part_of actors)
  -- no actor has both ends of a queue
  pub split : (n : ℕ) (row : QueueRow) → slice_get rows n ≡ Some row
      → row.producer.0 ≡ row.consumer.0 → ⊥
  -- the ends of each actor, by its number
  pub ends : ℕ → Role → ℕ → End
  pub fits : (k : ℕ) (x : Actor) → slice_get actors k ≡ Some x → FitsActor (ends k) x
  pub stands : (k : ℕ) (x : Actor) → slice_get actors k ≡ Some x
      → ActorStandsFor x nothing_passed

-- actors of the same parts stand for what passed, of which nothing came out of turn at any by the
-- names of all that was put; their clients that aren't hostile put good descriptors and requests
-- alone, and hostile ones of the block class reads and writes alone; and entries carry the pages
-- that items name at all queues but those of hostile clients
pub record HaveHeld (rows : List QueueRow) (olds news : List Actor) (passed : Passed) : Type 0 where
  pub parts : map part_of news ≡ map part_of olds
  pub stands : (k : ℕ) (x : Actor) → slice_get news k ≡ Some x → ActorStandsFor x passed
  pub in_turn : (k : ℕ) (x : Actor) → slice_get news k ≡ Some x
      → ToldInTurn (scene_of (map part_of news)) (wild_in (hostiles (map part_of news)) rows)
      (names_at passed) x passed
  pub sends : ClientsSend rows (map part_of news) passed
  pub asks : (place : PoolPlace) → IsPlaced rows place (map part_of news)
      → RoguesAsk (wild_in (hostiles (map part_of news)) rows) place passed
  pub carry : (place : PoolPlace) → IsPlaced rows place (map part_of news) → (m : Moved)
      → HaveItems passed m → CastCarries rows place news m passed

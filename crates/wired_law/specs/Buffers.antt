-- The buffers of a cast at one moment, by what its queues and its actors' hands have of them.
use Rattle.std.specs.Prelude.{◌≡◌, ◌+◌, ◌≤◌, ℕ, Some, List, length, slice_get}
use Rattle.std.specs.List.{sum_by}
use Rattle.cargo_core.specs.Blocks.{blk_buffer_bytes}
use Rattle.cargo_core.specs.declared.item.PoolId.{PoolId}
use Rattle.wire_core.specs.declared.names.QueueRow.{QueueRow}
use Rattle.wire_core.specs.Lists.{Passed}
use Rattle.wire_core.specs.Marks.{sum_below}
use Rattle.buffer_kit.specs.Conserving.{Count, counted, of_other_length, the_page}
use Rattle.wired_law.specs.PageLaw.Holders.{queue_has}
use Rattle.blk_virt.specs.Desks.{holders}
use Rattle.blk_virt.specs.declared.requests.Holder.{Holder}
use Rattle.blk_virt.specs.declared.virtualiser.BlkVirt.{BlkVirt}
use Rattle.actor_set.specs.Actors.{actor_hand}
use Rattle.actor_set.specs.declared.actor.Actor.{Actor}
use Rattle.actor_set.specs.declared.actor.Actor.TheVariants as Kinds

-- what the queues and the actors' hands have of buffers, whatever is counted of them
abbrev pub in_cast : Count → List QueueRow → List Actor → Passed → ℕ
in_cast f rows actors passed = sum_below (queue_has f passed) (length rows)
    + sum_by (λ (x : Actor). counted f (actor_hand x)) actors

-- each buffer is there once at most; and no buffer of a block client has another length than its
-- class's buffers. Nothing is asked of what the actors put
pub record HasEachOnce (rows : List QueueRow) (actors : List Actor) (passed : Passed) :
    Type 0 where
  pub once : (pool : PoolId) (number : ℕ) → in_cast (the_page pool number) rows actors passed ≤ 1
  pub long : (k : ℕ) (v : BlkVirt) → slice_get actors k ≡ Some (Kinds.BlkVirt v)
      → (j : ℕ) (h : Holder) → slice_get (holders v.work.desk) j ≡ Some h
      → in_cast (of_other_length h.pool blk_buffer_bytes) rows actors passed ≡ 0

-- The kinds of actor of the block class, each told by the queues that it has: these begin at no
-- fixed number.
use Rattle.std.specs.Prelude.{ℕ, List}
use Rattle.cargo_core.specs.declared.item.Ask.{Ask}
use Rattle.owner_law.specs.Pools.Places.{PoolAt}
use Rattle.net_law.specs.Parts.Parts.{Way}

-- a client as the virtualiser has it: the queue on which its requests come, the one on which its
-- responses go, the number of its entry in the table of partitions, and its pool
pub record Sharer : Type 0 where
  pub req : ℕ
  pub resp : ℕ
  pub entry : ℕ
  pub pool : PoolAt

-- an actor of the block class and its queues: a disk with its image at the start, a driver, a
-- virtualiser of a disk of so many sectors with the pool of its own buffer and its clients, and a
-- client with what it asks and its pool
pub data BlkPart : Type 0 where
  DiskDevice : (req resp : ℕ) (image : List ℕ) → BlkPart
  BlkDriver : (ways : List Way) → BlkPart
  BlkVirt : (req resp sectors : ℕ) (pool : PoolAt) (clients : List Sharer) → BlkPart
  BlkClient : (req resp : ℕ) (asks : List Ask) (pool : PoolAt) → BlkPart

-- The sending virtualiser as an actor, told by the queues that it has: these begin at no fixed
-- number.
use Rattle.std.specs.Prelude.{ℕ, List}
use Rattle.owner_law.specs.Pools.Places.{PoolAt}

-- a client as the sending virtualiser has it: the queue on which its descriptors come, the one on
-- which its buffers go back, its pool, and how many bytes a frame of its has at most
pub record Shipper : Type 0 where
  pub active : ℕ
  pub free : ℕ
  pub pool : PoolAt
  pub most : ℕ

-- a sending virtualiser: the queue to the driver, the one on which buffers come back from there,
-- and its clients
pub record SendPart : Type 0 where
  pub active : ℕ
  pub free : ℕ
  pub clients : List Shipper

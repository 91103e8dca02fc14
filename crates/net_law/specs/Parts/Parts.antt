-- The kinds of actor of the network's receive half, each told by the queues that it has: these
-- begin at no fixed number.
use Rattle.std.specs.Prelude.{ℕ, Bool, List}
use Rattle.frame_core.specs.declared.mac.Mac.{Mac}
use Rattle.class_expect.specs.NetExpect.Expecting.{Program}
use Rattle.owner_law.specs.Pools.Places.{PoolAt}

-- a way of a driver: what comes on one queue goes on to another
pub record Way : Type 0 where
  pub input : ℕ
  pub output : ℕ

-- a client as the receiving virtualiser has it: the queue on which leases go to its copier, the one
-- on which they come back, and its address
pub record Lessee : Type 0 where
  pub active : ℕ
  pub free : ℕ
  pub mac : Mac

-- an actor of the network's receive half and its queues: a device with the frames that it receives,
-- which it may drop or not, a virtualiser with the pool that it lends and its clients, a copier
-- that may drop or not, and a client with its program, its address and its two pools
pub data NetPart : Type 0 where
  NetDevice : (rx_free rx_active tx_active tx_free : ℕ) (frames : List (List ℕ)) (drops : Bool)
      → NetPart
  NetDriver : (ways : List Way) → NetPart
  NetReceiver : (active free : ℕ) (pool : PoolAt) (clients : List Lessee) → NetPart
  NetCopier : (lease_active lease_free rx_active rx_free : ℕ) (drops : Bool) → NetPart
  NetClient : (program : Program) (mac : Mac) (rx_active rx_free tx_active tx_free : ℕ)
      (rx tx : PoolAt) → NetPart

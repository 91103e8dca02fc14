-- The whole network by the number of the class's first queue, in the order of the layout's table:
-- where it stands, what its clients have of their pools, and the sending virtualiser's part.
use Rattle.std.specs.Prelude.{◌+◌, ℕ, Bool, List, [], ◌∷◌}
use Rattle.frame_core.specs.declared.mac.Mac.{Mac}
use Rattle.class_expect.specs.NetExpect.Expecting.{Program}
use Rattle.net_law.specs.Owners.Names.{ClientPools}
use Rattle.owner_law.specs.Pools.Places.{PoolAt, own_pool}
use Rattle.net_law.specs.Parts.Numbers.{client_first}
use Rattle.net_law.specs.TxParts.Parts.{SendPart, Shipper}

-- where the network class stands: its first queue, whether its device may drop, the pool in which
-- that receives, and of each client its address, its pools by device addresses, its program, and
-- whether frames for it may be dropped; and how many bytes a frame has at most
pub record NetPlace : Type 0 where
  pub first : ℕ
  pub device_drops : Bool
  pub pool : PoolAt
  pub macs : List Mac
  pub pools : List ClientPools
  pub programs : List Program
  pub drops : List Bool
  pub most : ℕ

-- a client's pools as the client has them
abbrev pub own_pools : ClientPools → ClientPools
own_pools q = record { rx = own_pool q.rx; tx = own_pool q.tx }

-- clients that send frames of at most so many bytes in these pools, from a number on
abbrev pub shippers_from : (first most k : ℕ) → List ClientPools → List Shipper
shippers_from first most k [] = []
shippers_from first most k (q ∷ qs) = record {
  active = client_first first k + 4;
  free = client_first first k + 5;
  pool = q.tx;
  most = most;
}
    ∷ shippers_from first most (k + 1) qs

-- the sending virtualiser's part
abbrev pub sender_at : (first most : ℕ) → List ClientPools → SendPart
sender_at first most pools =
    record { active = first + 6; free = first + 7; clients = shippers_from first most 0 pools }

-- What items name at the sending virtualiser's queues, and how its clients' pools lie.
use Rattle.std.specs.Prelude.{◌<◌, ◌≡◌, ◌+◌, ◌*◌, ◌&&◌, ℕ, Bool, true, false, nat_le, nat_lt, Some, List}
use Rattle.std.specs.Prelude.{[], ◌∷◌, map, slice_get}
use Rattle.owner_law.specs.Things.{Window, Buffers, Naming}
use Rattle.owner_law.specs.Pools.Places.{PoolAt, by_address, by_offset}
use Rattle.net_law.specs.TxParts.Parts.{SendPart, Shipper}

-- the clients' buffers by device addresses
abbrev pub device_windows : List Shipper → List Window
device_windows clients = map (λ (c : Shipper). by_address c.pool) clients

-- buffers are named by device addresses on the driver's side, and at each client's queues by
-- offsets
pub record NamesSend (naming : Naming) (p : SendPart) : Type 0 where
  pub active : naming p.active ≡ Buffers (device_windows p.clients)
  pub free : naming p.free ≡ Buffers (device_windows p.clients)
  pub sends : (k : ℕ) (c : Shipper) → slice_get p.clients k ≡ Some c
      → naming c.active ≡ Buffers (by_offset c.pool ∷ [])
  pub returns : (k : ℕ) (c : Shipper) → slice_get p.clients k ≡ Some c
      → naming c.free ≡ Buffers (by_offset c.pool ∷ [])

-- an address is in a pool's range of device addresses
abbrev pub is_at : PoolAt → ℕ → Bool
is_at p address = nat_le p.base address && nat_lt address (p.base + p.buffers * p.size)

-- no buffer is empty, and no two clients' ranges meet
pub record ArePoolsApart (clients : List Shipper) : Type 0 where
  pub sized : (k : ℕ) (c : Shipper) → slice_get clients k ≡ Some c → 0 < c.pool.size
  pub apart : (j k : ℕ) (c d : Shipper) → slice_get clients j ≡ Some c
      → slice_get clients k ≡ Some d → (j ≡ k → ⊥) → (address : ℕ)
      → is_at c.pool address ≡ true → is_at d.pool address ≡ false

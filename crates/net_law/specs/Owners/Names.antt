-- What the items of the network's queues name, queue by queue in the order of the layout's table.
use Rattle.std.specs.Prelude.{ℕ, List, [], ◌∷◌, map, flat_map}
use Rattle.owner_law.specs.Things.{Names, Buffers, Frames, Leases, Returns}
use Rattle.owner_law.specs.Pools.Places.{PoolAt, by_address, by_offset}

-- a client's pools: the buffers in which it receives, and those in which it sends
pub record ClientPools : Type 0 where
  pub rx : PoolAt
  pub tx : PoolAt

-- a client's queues: leases to its copier and back, received frames and free buffers, frames to
-- send and buffers that were sent, all by offsets
abbrev pub client_names : PoolAt → ClientPools → List Names
client_names rx c = Leases (by_offset rx ∷ []) ∷ Returns (by_offset rx ∷ [])
    ∷ Buffers (by_offset c.rx ∷ []) ∷ Buffers (by_offset c.rx ∷ [])
    ∷ Buffers (by_offset c.tx ∷ []) ∷ Buffers (by_offset c.tx ∷ []) ∷ []

-- the class's queues, those of the device and the driver by device addresses: free buffers and
-- received frames, frames to send and buffers that were sent; the same between the driver and the
-- virtualisers, where received frames are lent to their receivers; and each client's
abbrev pub net_names : PoolAt → (receivers : ℕ → ℕ) → List ClientPools → List Names
net_names rx receivers clients =
    Buffers (by_address rx ∷ []) ∷ Buffers (by_address rx ∷ [])
    ∷ Buffers (map (λ c. by_address c.tx) clients) ∷ Buffers (map (λ c. by_address c.tx) clients)
    ∷ Frames (by_address rx ∷ []) receivers ∷ Buffers (by_address rx ∷ [])
    ∷ Buffers (map (λ c. by_address c.tx) clients) ∷ Buffers (map (λ c. by_address c.tx) clients)
    ∷ flat_map (client_names rx) clients

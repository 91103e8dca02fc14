-- The network's pools in the order of their numbers.
use Rattle.std.specs.Prelude.{List, [], ◌∷◌, flat_map}
use Rattle.net_law.specs.Owners.Names.{ClientPools}
use Rattle.owner_law.specs.Pools.Places.{PoolAt}

-- the class's pools in the order of their numbers: the device's receive buffers, and of each client
-- those in which it receives and those in which it sends
abbrev pub net_pools : PoolAt → List ClientPools → List PoolAt
net_pools pool pools = pool ∷ flat_map (λ (c : ClientPools). c.rx ∷ c.tx ∷ []) pools

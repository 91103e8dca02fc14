-- Which buffers an actor has: it is counted by the bodies that passed at its ends.
use Rattle.std.specs.Prelude.{◌≡◌, ◌+◌, ℕ, List, map, flat_map}
use Rattle.cargo_core.specs.declared.item.PoolId.{PoolId}
use Rattle.cargo_core.specs.declared.item.Body.{Body}
use Rattle.cargo_core.specs.Bodies.{buffers_of}
use Rattle.wire_core.specs.Deeds.{Cargo}
use Rattle.wire_core.specs.Lists.{Lists}

-- the bodies of entries
abbrev pub bodies_of : List Cargo → List Body
bodies_of cs = map (λ c. c.1) cs

-- the bodies of the entries at these queues
abbrev pub bodies_at : Lists → List ℕ → List Body
bodies_at lists queues = flat_map (λ n. bodies_of (lists n)) queues

-- of each pool, what an actor had at the start and what came is what went, what is in its hand, and
-- what it keeps for good or lends
abbrev pub Balances : (start came went hand kept : List Body) → Type 0
Balances start came went hand kept =
    (pool : PoolId) → buffers_of pool start + buffers_of pool came ≡ buffers_of pool went
    + (buffers_of pool hand + buffers_of pool kept)

-- How many buffers of a pool stand in queues.
use Rattle.std.specs.Prelude.{ℕ, List, map, sum_by}
use Rattle.cargo_core.specs.declared.item.PoolId.{PoolId}
use Rattle.cargo_core.specs.Bodies.{buffers_of}
use Rattle.wire_core.specs.Deeds.{Cargo}
use Rattle.wire_core.specs.Queues.{Queue}

-- how many buffers of a pool entries carry
abbrev pub pages_among : PoolId → List Cargo → ℕ
pages_among pool entries = buffers_of pool (map (λ c. c.1) entries)

-- how many stand in a queue
abbrev pub pages_at : PoolId → Queue → ℕ
pages_at pool q = pages_among pool q.entries

-- and in all of these queues
abbrev pub pages_in : PoolId → List Queue → ℕ
pages_in pool queues = sum_by (pages_at pool) queues

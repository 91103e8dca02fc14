-- How many buffers a body is.
use Rattle.std.specs.Prelude.{ℕ, List, ◌==◌, if◌then◌else◌, map, sum}
use Rattle.cargo_core.specs.declared.item.PoolId.{PoolId}
use Rattle.cargo_core.specs.declared.item.Body.{Body}
use Rattle.cargo_core.specs.declared.item.Body.TheVariants as Carried

-- how many buffers of a pool a body is: a page is one of its own pool; a lease is none, since
-- leases are counted apart
abbrev pub buffers_in : PoolId → Body → ℕ
buffers_in pool Carried.Empty = 0
buffers_in pool (Carried.Page page) = if page.pool.0 == pool.0 then 1 else 0
buffers_in pool (Carried.Lease lease) = 0

-- how many buffers of a pool a list of bodies is
abbrev pub buffers_of : PoolId → List Body → ℕ
buffers_of pool bodies = sum (map (buffers_in pool) bodies)

-- With whom the buffers of pools are at the start.
use Rattle.std.specs.Prelude.{◌≡◌, ◌==◌, ℕ, if◌then◌else◌, Some, List, [], slice_get}
use Rattle.owner_law.specs.Keeping.{Keeper}
use Rattle.owner_law.specs.Pools.Places.{numbers_from}

-- of a pool, from number 0 on, the buffers that an actor has at the start: all, where it owns the
-- pool
abbrev pub share_of : (sizes owner : ℕ → ℕ) → (actor pool : ℕ) → List ℕ
share_of sizes owner k pool = if owner pool == k then numbers_from 0 (sizes pool) else []

-- each actor has at the start all buffers of the pools that it owns, and no others
abbrev pub AreSpread : (sizes owner : ℕ → ℕ) → List Keeper → Type 0
AreSpread sizes owner keepers =
    (k : ℕ) (p : Keeper) → slice_get keepers k ≡ Some p → (pool : ℕ)
    → p.hand pool ≡ share_of sizes owner k pool

-- Pools of buffers, of whatever class: where they stand, how many buffers they have, by their
-- numbers, and the hand of one that has all of a pool.
use Rattle.std.specs.Prelude.{◌≡◌, ◌==◌, ◌+◌, ℕ, zero, suc, if◌then◌else◌, Some, List, [], ◌∷◌}
use Rattle.std.specs.Prelude.{slice_get}
use Rattle.owner_law.specs.Things.{Window}

-- a pool: its number among the pools, the device address of its first buffer, how many it has, and
-- how many bytes each has
pub record PoolAt : Type 0 where
  pub number : ℕ
  pub base : ℕ
  pub buffers : ℕ
  pub size : ℕ

-- its buffers by device addresses
abbrev pub by_address : PoolAt → Window
by_address p = record { pool = p.number; base = p.base; size = p.size; buffers = p.buffers }

-- its buffers by offsets
abbrev pub by_offset : PoolAt → Window
by_offset p = record { pool = p.number; base = 0; size = p.size; buffers = p.buffers }

-- a pool as its owner has it: by offsets
abbrev pub own_pool : PoolAt → PoolAt
own_pool p = record { number = p.number; base = 0; buffers = p.buffers; size = p.size }

-- so many numbers from one on
abbrev pub numbers_from : ℕ → ℕ → List ℕ
numbers_from first zero = []
numbers_from first (suc count) = first ∷ numbers_from (first + 1) count

-- of a pool, by its number, the buffers of this one
abbrev pub pool_hand : PoolAt → ℕ → List ℕ
pool_hand p pool = if p.number == pool then numbers_from 0 p.buffers else []

-- how many buffers the pool of a number has: none, where there is no such pool
abbrev pub sizes_of : List PoolAt → ℕ → ℕ
sizes_of [] number = 0
sizes_of (p ∷ ps) number = if p.number == number then p.buffers else sizes_of ps number

-- no two of these pools have one number
abbrev pub AreNumbered : List PoolAt → Type 0
AreNumbered ps = (i j : ℕ) (p q : PoolAt) → slice_get ps i ≡ Some p → slice_get ps j ≡ Some q
    → p.number ≡ q.number → i ≡ j

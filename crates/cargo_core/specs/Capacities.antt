-- How many entries a queue may hold: what a lock-free ring with indices of 16 bits takes, so that
-- rule, wires and rings have one condition.
use Rattle.std.specs.Prelude.{◌≡◌, ◌≤◌, ◌^◌, ℕ}

-- a power of two from 1 to 32,768
abbrev pub IsCapacity : ℕ → Type 0
IsCapacity n = (k : ℕ) × (k ≤ 15) × (n ≡ 2 ^ k)

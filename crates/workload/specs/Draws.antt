-- The numbers that a seed draws.
use Rattle.std.specs.Prelude.{ℕ, zero, suc, ◌/◌, ◌^◌, List, [], ◌∷◌}
use Rattle.wire_core.specs.Picks.{next_seed}

-- what x is after so many draws, each of which moves it as a pick does
unfoldable pub moved : ℕ → ℕ → ℕ
moved x zero = x
moved x (suc n) = moved (next_seed x) n

-- the numbers that so many draws give: of each x that a draw moves to, all but the low 33 bits
unfoldable pub drawn : ℕ → ℕ → List ℕ
drawn x zero = []
drawn x (suc n) = next_seed x / 2 ^ 33 ∷ drawn (next_seed x) n

-- the numbers of so many draws behind the first ones
abbrev pub drawn_behind : ℕ → ℕ → ℕ → List ℕ
drawn_behind first x n = drawn (moved x first) n

-- Ranges of addresses, one for each client, of which no two meet.
use Rattle.std.specs.Prelude.{◌≡◌, ◌+◌, ◌≤◌, ◌^◌, ◌&&◌, ℕ, Bool, true, false, nat_le, nat_lt, Some}
use Rattle.std.specs.Prelude.{List, All, length, slice_get}
use Rattle.cargo_core.specs.declared.ranges.Range.{Range}

-- an address is in a range
abbrev pub is_within : Range → ℕ → Bool
is_within range address = nat_le range.base address && nat_lt address (range.base + range.size)

-- no address is in both ranges
abbrev pub IsApart : Range → Range → Type 0
IsApart one other = (address : ℕ) → is_within one address ≡ true → is_within other address ≡ false

-- the range of this client holds the address
pub record IsOwner (ranges : List Range) (address client : ℕ) : Type 0 where
  pub range : Range
  pub there : slice_get ranges client ≡ Some range
  pub within : is_within range address ≡ true

-- the address is in no range
abbrev pub IsNobodys : List Range → ℕ → Type 0
IsNobodys ranges address = All (λ (r : Range). is_within r address ≡ false) ranges

-- no two of the ranges meet, each ends at most at 2^62, and each client has a number of 32 bits
pub record AreRanges (ranges : List Range) : Type 0 where
  pub apart : (k j : ℕ) (one other : Range) → slice_get ranges k ≡ Some one
      → slice_get ranges j ≡ Some other → (k ≡ j → ⊥) → IsApart one other
  pub ends : All (λ (r : Range). r.base + r.size ≤ 2 ^ 62) ranges
  pub few : length ranges ≤ 2 ^ 32

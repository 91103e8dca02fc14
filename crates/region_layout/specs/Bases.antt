-- Where the regions of a plan lie: at their given bases, or in file order behind all given ranges.
use Rattle.std.specs.Prelude.{◌≡◌, ℕ, ◌+◌, ◌-◌, ◌*◌, ◌/◌, ◌<◌, ◌≤◌, ◌⊎◌, max, if◌then◌else◌, List}
use Rattle.std.specs.Prelude.{[], ◌∷◌, fold, slice_get, Some, is_some, unwrap_or}
use Rattle.std.specs.Option.{option_map_or}
use Rattle.sdf_plan.specs.declared.plan.Region.{Region}

-- where the range that a region is given ends; 0 where it is given none
abbrev pub given_end : Region → ℕ
given_end region = option_map_or (λ base. base + region.size) region.phys_addr 0

-- from here on the other regions are placed: at 0x40000000 or above, and behind every given range
abbrev pub floor_of : List Region → ℕ
floor_of regions = fold (λ low region. max low (given_end region)) 0x40000000 regions

-- the least multiple of a size that isn't below a number
abbrev pub round_up : ℕ → ℕ → ℕ
round_up number size = (number + (size - 1)) / size * size

-- the base of a region: the given one, or the first page that is free
abbrev pub base_at : ℕ → Region → ℕ
base_at free region = unwrap_or region.phys_addr (round_up free region.page_size)

-- what is free behind a region: a region with a given base takes nothing of it
abbrev pub free_after : ℕ → Region → ℕ
free_after free region = if is_some region.phys_addr then free else round_up free region.page_size
    + region.size

-- the bases of regions in file order, from what is free on
abbrev pub bases_from : ℕ → List Region → List ℕ
bases_from free [] = []
bases_from free (region ∷ rest) = base_at free region ∷ bases_from (free_after free region) rest

-- the bases of all regions
unfoldable pub bases_of : List Region → List ℕ
bases_of regions = bases_from (floor_of regions) regions

-- two regions have no address in common
abbrev pub ArePartedBy : ℕ → Region → ℕ → Region → Type 0
ArePartedBy base region other_base other =
    (base + region.size ≤ other_base) ⊎ (other_base + other.size ≤ base)

-- no two regions have an address in common
abbrev pub AreDisjoint : List Region → List ℕ → Type 0
AreDisjoint regions bases =
    (a b : ℕ) (first second : Region) (at other : ℕ) → a < b → slice_get regions a ≡ Some first
    → slice_get regions b ≡ Some second
    → slice_get bases a ≡ Some at → slice_get bases b ≡ Some other
    → ArePartedBy at first other second

-- no two given ranges have an address in common
abbrev pub AreGivenApart : List Region → Type 0
AreGivenApart regions =
    (a b : ℕ) (first second : Region) (at other : ℕ) → a < b → slice_get regions a ≡ Some first
    → slice_get regions b ≡ Some second
    → first.phys_addr ≡ Some at → second.phys_addr ≡ Some other → ArePartedBy at first other second

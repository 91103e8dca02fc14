-- The first range that meets an earlier one: of some ranges, and of the maps of each domain.
use Rattle.std.specs.Prelude.{◌≡◌, ℕ, ◌<◌, List, Option, Some, map, slice_get, MatchOption}
use Rattle.std.specs.Prelude.{IsSomeAnd}
use Rattle.sdf_plan.specs.declared.plan.Plan.{Plan}
use Rattle.sdf_plan.specs.declared.plan.Domain.{Domain}
use Rattle.sdf_check.specs.Rules.{Range, MeetsEarlier, map_range}

-- this is the first of the ranges that meets an earlier one, if one does
abbrev pub IsFirstMeeting : List (Option Range) → Option ℕ → Type 0
IsFirstMeeting ranges first =
    MatchOption first ((k : ℕ) → MeetsEarlier ranges k → ⊥)
    (λ at. MeetsEarlier ranges at × ((k : ℕ) → k < at → MeetsEarlier ranges k → ⊥))

-- for each of the first domains, the first of its maps that meets an earlier one
abbrev pub AreFirstMapsUpTo : Plan → List (Option ℕ) → ℕ → Type 0
AreFirstMapsUpTo plan firsts at =
    (d : ℕ) (domain : Domain) → d < at → slice_get plan.protection_domain d ≡ Some domain
    → IsSomeAnd (slice_get firsts d) (IsFirstMeeting (map (map_range plan) domain.map))

-- of each domain, its first map that meets an earlier one
abbrev pub AreFirstMaps : Plan → List (Option ℕ) → Type 0
AreFirstMaps plan firsts =
    (d : ℕ) (domain : Domain) → slice_get plan.protection_domain d ≡ Some domain
    → IsSomeAnd (slice_get firsts d) (IsFirstMeeting (map (map_range plan) domain.map))

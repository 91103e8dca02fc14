-- The rules on any system: names, numbers, ranges, permissions, ids and ends of channels.
use Rattle.std.specs.Prelude.{◌≡◌, ◌≢◌, ℕ, ◌+◌, ◌*◌, ◌^◌, ◌<◌, ◌≤◌, ◌==◌, ◌⊎◌, List, [], length}
use Rattle.std.specs.Prelude.{map, count_by, Option, Some, slice_get, codes, IsNone, IsSomeAnd}
use Rattle.std.specs.Option.{option_map, option_and_then}
use Rattle.sdf_plan.specs.declared.place.Place.{Place}
use Rattle.sdf_plan.specs.declared.place.Place.TheVariants as At
use Rattle.sdf_plan.specs.declared.plan.Plan.{Plan}
use Rattle.sdf_plan.specs.declared.plan.Region.{Region}
use Rattle.sdf_plan.specs.declared.plan.Map.{Map}
use Rattle.sdf_plan.specs.declared.plan.Irq.{Irq}
use Rattle.sdf_plan.specs.Elements.{OfRegion, OfDomain, OfMap, OfIrq, OfEnd}
use Rattle.sdf_check.specs.Names.{StandsBefore, region_names, domain_names, region_named}
use Rattle.sdf_check.specs.Names.{domain_named}

-- rule 5: a region has the name of an earlier region, or a domain that of an earlier domain
abbrev pub TakesName : Plan → Place → Type 0
TakesName plan (At.Region r) = OfRegion plan r
    (λ region. StandsBefore region.name (region_names plan) r)
TakesName plan (At.Domain d) = OfDomain plan d
    (λ domain. StandsBefore domain.name (domain_names plan) d)
TakesName plan _ = ⊥

-- rule 6: there are 63 domains before this one
abbrev pub IsPastLastDomain : Plan → Place → Type 0
IsPastLastDomain plan (At.Domain d) = (63 ≤ d) × (d < length plan.protection_domain)
IsPastLastDomain plan _ = ⊥

-- rule 7: a priority is above 254
abbrev pub HasPriorityTooHigh : Plan → Place → Type 0
HasPriorityTooHigh plan (At.Domain d) = OfDomain plan d (λ domain. 254 < domain.priority)
HasPriorityTooHigh plan _ = ⊥

-- rule 8: a period is smaller than the budget
abbrev pub HasPeriodTooShort : Plan → Place → Type 0
HasPeriodTooShort plan (At.Domain d) = OfDomain plan d (λ domain. domain.period < domain.budget)
HasPeriodTooShort plan _ = ⊥

-- a page size that the Microkit has
abbrev pub IsPageSize : ℕ → Type 0
IsPageSize size = (size ≡ 4096) ⊎ (size ≡ 2097152)

-- the number is so many times the other
abbrev pub IsMultiple : ℕ → ℕ → Type 0
IsMultiple number of = (times : ℕ) × (number ≡ times * of)

-- rule 9: a size is 0, above 0x40000000, or no multiple of the page size, where that is one
abbrev pub HasBadSize : Plan → Place → Type 0
HasBadSize plan (At.Region r) =
    OfRegion plan r (λ region. (region.size ≡ 0) ⊎ (0x40000000 < region.size)
    ⊎ (IsPageSize region.page_size × ¬ IsMultiple region.size region.page_size))
HasBadSize plan _ = ⊥

-- rule 10: a page size is neither 4,096 nor 2,097,152
abbrev pub HasBadPageSize : Plan → Place → Type 0
HasBadPageSize plan (At.Region r) = OfRegion plan r (λ region. ¬ IsPageSize region.page_size)
HasBadPageSize plan _ = ⊥

-- rule 11: a given physical address is no multiple of the page size, or its range ends above 2^40
abbrev pub HasBadPhysAddr : Plan → Place → Type 0
HasBadPhysAddr plan (At.Region r) =
    OfRegion plan r (λ region. IsSomeAnd region.phys_addr
    (λ base. (¬ IsMultiple base region.page_size) ⊎ (2 ^ 40 < base + region.size)))
HasBadPhysAddr plan _ = ⊥

-- a range of addresses, from the first up to the second
abbrev pub Range : Type 0
Range = ℕ × ℕ

-- an address is in both ranges
abbrev pub Meets : Range → Range → Type 0
Meets a b = (address : ℕ) × (a.0 ≤ address) × (address < a.1) × (b.0 ≤ address) × (address < b.1)

-- the range at this place of a list meets one at an earlier place
abbrev pub MeetsEarlier : List (Option Range) → ℕ → Type 0
MeetsEarlier ranges at =
    (earlier : ℕ) × (a : Range) × (b : Range) × (earlier < at)
    × (slice_get ranges earlier ≡ Some (Some a)) × (slice_get ranges at ≡ Some (Some b))
    × Meets a b

-- the physical range that a region is given, if it is given one
abbrev pub given_range : Region → Option Range
given_range region = option_map (λ base. (base, base + region.size)) region.phys_addr

-- rule 12: a given physical range meets that of an earlier region
abbrev pub MeetsGivenRange : Plan → Place → Type 0
MeetsGivenRange plan (At.Region r) = MeetsEarlier (map given_range plan.memory_region) r
MeetsGivenRange plan _ = ⊥

-- rule 13: a map names a region that isn't there; UsesNoRegion says the same of an element of a
-- class
abbrev pub NamesNoRegion : Plan → Place → Type 0
NamesNoRegion plan (At.Map d m) = OfMap plan d m (λ map. IsNone (region_named plan map.mr))
NamesNoRegion plan _ = ⊥

-- the region that has this name
abbrev pub the_region : Plan → List ℕ → Option Region
the_region plan name = option_and_then (λ r. slice_get plan.memory_region r)
    (region_named plan name)

-- rule 14: a virtual address is no multiple of the region's page size, or the map ends above 2^38
abbrev pub HasBadVaddr : Plan → Place → Type 0
HasBadVaddr plan (At.Map d m) =
    OfMap plan d m (λ map. IsSomeAnd (the_region plan map.mr)
    (λ region. (¬ IsMultiple map.vaddr region.page_size) ⊎ (2 ^ 38 < map.vaddr + region.size)))
HasBadVaddr plan _ = ⊥

-- the virtual range of a map
abbrev pub map_range : Plan → Map → Option Range
map_range plan m = option_map (λ region. (m.vaddr, m.vaddr + region.size)) (the_region plan m.mr)

-- rule 15: a map meets an earlier map of its domain
abbrev pub MeetsMap : Plan → Place → Type 0
MeetsMap plan (At.Map d m) = OfDomain plan d
    (λ domain. MeetsEarlier (map (map_range plan) domain.map) m)
MeetsMap plan _ = ⊥

-- how often a letter stands in a text
abbrev pub count_of : ℕ → List ℕ → ℕ
count_of letter text = count_by (λ byte. byte == letter) text

-- permissions: made of `r`, `w` and `x`, each at most once and in any order, and neither empty nor
-- `w` alone
pub record ArePermissions (perms : List ℕ) : Type 0 where
  pub letters : length perms ≡ count_of 114 perms + count_of 119 perms + count_of 120 perms
  pub r_once : count_of 114 perms ≤ 1
  pub w_once : count_of 119 perms ≤ 1
  pub x_once : count_of 120 perms ≤ 1
  pub not_empty : perms ≢ []
  pub not_w_alone : perms ≢ codes "w"

-- rule 16: the permissions of a map aren't permissions
abbrev pub HasBadPerms : Plan → Place → Type 0
HasBadPerms plan (At.Map d m) = OfMap plan d m (λ map. ¬ ArePermissions map.perms)
HasBadPerms plan _ = ⊥

-- rule 17: an end names a domain that isn't there; UsesNoDomain says the same of an element of a
-- class
abbrev pub NamesNoDomain : Plan → Place → Type 0
NamesNoDomain plan (At.End c e) = OfEnd plan c e (λ end. IsNone (domain_named plan end.pd))
NamesNoDomain plan _ = ⊥

-- rule 18: an id is above 62
abbrev pub HasIdTooHigh : Plan → Place → Type 0
HasIdTooHigh plan (At.Irq d i) = OfIrq plan d i (λ irq. 62 < irq.id)
HasIdTooHigh plan (At.End c e) = OfEnd plan c e (λ end. 62 < end.id)
HasIdTooHigh plan _ = ⊥

-- an interrupt of this domain has this id
abbrev pub InterruptHas : Plan → ℕ → ℕ → Type 0
InterruptHas plan d id = (i : ℕ) × OfIrq plan d i (λ irq. irq.id ≡ id)

-- the first end stands before the second
abbrev pub IsEarlierEnd : ℕ → ℕ → ℕ → ℕ → Type 0
IsEarlierEnd c e channel end = (c < channel) ⊎ ((c ≡ channel) × (e < end))

-- an end before this one has this id in this domain
abbrev pub EarlierEndHas : Plan → ℕ → ℕ → ℕ → ℕ → Type 0
EarlierEndHas plan channel end d id =
    (c : ℕ) × (e : ℕ) × IsEarlierEnd c e channel end
    × OfEnd plan c e (λ other. (domain_named plan other.pd ≡ Some d) × (other.id ≡ id))

-- rule 19: an id was used before in the same domain, where the interrupts of all domains come
-- before the ends
abbrev pub TakesId : Plan → Place → Type 0
TakesId plan (At.Irq d i) =
    OfDomain plan d (λ domain. IsSomeAnd (slice_get domain.irq i)
    (λ irq. StandsBefore irq.id (map (λ (other : Irq). other.id) domain.irq) i))
TakesId plan (At.End c e) =
    OfEnd plan c e (λ end. IsSomeAnd (domain_named plan end.pd)
    (λ d. InterruptHas plan d end.id ⊎ EarlierEndHas plan c e d end.id))
TakesId plan _ = ⊥

-- rule 20: both ends of a channel name one domain
abbrev pub JoinsOneDomain : Plan → Place → Type 0
JoinsOneDomain plan (At.Channel c) =
    OfEnd plan c 0 (λ first. OfEnd plan c 1 (λ second. first.pd ≡ second.pd))
JoinsOneDomain plan _ = ⊥

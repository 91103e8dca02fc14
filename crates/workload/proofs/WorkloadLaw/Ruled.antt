-- Each rule on plans, refuted at a place or of a class's element by computing.
use Rattle.std.proofs.Common.{◌≡◌, refl, ap, sym, ◌∙◌, ℕ, zero, suc, ◌+◌, ◌*◌, ◌/◌, ◌^◌, ◌<◌, ◌≤◌, ◌⊎◌, inl, inr, Bool, true, leb, eqb, List, [], ◌∷◌, ◌++◌, length, map, take, Option, Some, None, subst, codes, arith}
use Rattle.std.specs.Prelude.{slice_get, IsSomeAnd, nat_lt, ◌==◌}
use Rattle.std.proofs.lemmas.Bool.{leb-true, eqb-true}
use Rattle.std.proofs.lemmas.Option.{same_Some}
use Rattle.std.specs.List.{flat_map}
use Rattle.frame_core.specs.declared.mac.Mac.{Mac}
use Rattle.frame_core.specs.Macs.{mac_of}
use Rattle.sdf_plan.specs.declared.place.Place.{Place}
use Rattle.sdf_plan.specs.declared.place.Place.TheVariants as At
use Rattle.sdf_plan.specs.declared.plan.Plan.{Plan}
use Rattle.sdf_plan.specs.declared.plan.Region.{Region}
use Rattle.sdf_plan.specs.declared.plan.Domain.{Domain}
use Rattle.sdf_plan.specs.declared.plan.Map.{Map}
use Rattle.sdf_plan.specs.declared.plan.Irq.{Irq}
use Rattle.sdf_plan.specs.declared.plan.Channel.{Channel}
use Rattle.sdf_plan.specs.declared.plan.End.{End}
use Rattle.sdf_plan.specs.declared.plan.NetClient.{NetClient}
use Rattle.sdf_plan.specs.declared.plan.BlkClient.{BlkClient}
use Rattle.sdf_plan.specs.Places.{IsKept}
use Rattle.sdf_plan.specs.Elements.{OfMap, OfEnd}
use Rattle.sdf_plan.specs.declared.class_table.role.Role.{Role}
use Rattle.sdf_plan.specs.declared.class_table.role.Role.TheVariants as For
use Rattle.sdf_plan.specs.declared.class_table.uses.Link.{Link}
use Rattle.sdf_plan.specs.declared.class_table.uses.Ends.{Ends}
use Rattle.sdf_plan.specs.declared.class_table.uses.Ends.TheVariants as Way
use Rattle.sdf_plan.specs.declared.class_table.uses.RoleUse.{RoleUse}
use Rattle.sdf_plan.specs.declared.class_table.uses.QueueUse.{QueueUse}
use Rattle.sdf_plan.specs.declared.class_table.uses.Grant.{Grant}
use Rattle.sdf_plan.specs.declared.class_table.uses.PoolUse.{PoolUse}
use Rattle.sdf_plan.specs.ClassTable.Rows.{Name}
use Rattle.sdf_plan.specs.ClassTable.Names.{domains_of, regions_of}
use Rattle.sdf_plan.specs.ClassTable.Order.{elements_before}
use Rattle.sdf_plan.specs.ClassTable.Roles.{IsProgramOf}
use Rattle.sdf_plan.specs.ClassTable.Sizes.{queue_end, pool_bytes}
use Rattle.sdf_plan.specs.ClassTable.Table.{Element, OfElement, net_element, net_client_element, serial_element, serial_client_element, blk_element, blk_client_element}
use Rattle.sdf_check.specs.Names.{region_names, domain_names, region_named, domain_named}
use Rattle.sdf_check.specs.Rules.{TakesName, IsPastLastDomain, HasPriorityTooHigh, HasPeriodTooShort, IsPageSize, IsMultiple, HasBadSize, HasBadPageSize, HasBadPhysAddr, Range, Meets, MeetsEarlier, given_range, MeetsGivenRange, NamesNoRegion, the_region, HasBadVaddr, map_range, MeetsMap, count_of, ArePermissions, HasBadPerms, NamesNoDomain, HasIdTooHigh, InterruptHas, IsEarlierEnd, EarlierEndHas, TakesId, JoinsOneDomain}
use Rattle.sdf_check.specs.ClassRules.{SomeOf, OfLink, RepeatsName, the_domain, class_domains, LacksRole, Joins, AreJoined, IsGranted, HasStranger, allowed, IsSmaller, HasBadMac, HasBadPartition, IsClientCount, IsBufferCount, IsPastLimit, HasBadMaxFrame, IsBufferSize, IsBadBuffer, HasBadBufferSize}
use Rattle.sdf_check.specs.Valid.{BreaksPlanRule, BreaksClassRule, BreaksByRows, broken}
use Rattle.workload.proofs.WorkloadLaw.Refuting.{found, found_both, yes_either, Yes, No, never, no_sum, yes_sum, no_both, yes_both, yes_three, no_not, no_match, yes_match, yes_true, no_and, yes_and, no_none, no_keyed, no_some, yes_some, no_before, no_less, yes_less, no_least, yes_least, no_equal, yes_equal, no_text, yes_text, yes_power, found_if}

abbrev no_not_page : (size : ℕ) → No (¬ IsPageSize size)
no_not_page size = no_not (yes_sum (yes_equal size 4096) (yes_equal size 2097152))

pub multiple : (number of : ℕ) → eqb number (number / of * of) ≡ true → IsMultiple number of
multiple number of h = (number / of, eqb-true number (number / of * of) h)

abbrev yes_multiple : (number of : ℕ) → Yes (IsMultiple number of)
yes_multiple number of = found_if (eqb number (number / of * of)) (multiple number of)

-- ---- rules 5 to 20

abbrev no_5 : (plan : Plan) (place : Place) → No (TakesName plan place)
no_5 plan (At.Region r) = no_and (slice_get plan.memory_region r) (λ (region : Region). no_before no_text region.name (region_names plan) r)
no_5 plan (At.Domain d) = no_and (slice_get plan.protection_domain d) (λ (domain : Domain). no_before no_text domain.name (domain_names plan) d)
no_5 plan _ = never

abbrev no_6 : (plan : Plan) (place : Place) → No (IsPastLastDomain plan place)
no_6 plan (At.Domain d) = no_both (no_least 63 d) (no_less d (length plan.protection_domain))
no_6 plan _ = never

abbrev no_7 : (plan : Plan) (place : Place) → No (HasPriorityTooHigh plan place)
no_7 plan (At.Domain d) = no_and (slice_get plan.protection_domain d) (λ (domain : Domain). no_less 254 domain.priority)
no_7 plan _ = never

abbrev no_8 : (plan : Plan) (place : Place) → No (HasPeriodTooShort plan place)
no_8 plan (At.Domain d) = no_and (slice_get plan.protection_domain d) (λ (domain : Domain). no_less domain.period domain.budget)
no_8 plan _ = never

abbrev no_9 : (plan : Plan) (place : Place) → No (HasBadSize plan place)
no_9 plan (At.Region r) =
    no_and (slice_get plan.memory_region r) (λ (region : Region). no_sum (no_equal region.size 0) (no_sum (no_less 0x40000000 region.size)
    (no_both None (no_not (yes_multiple region.size region.page_size)))))
no_9 plan _ = never

abbrev no_10 : (plan : Plan) (place : Place) → No (HasBadPageSize plan place)
no_10 plan (At.Region r) = no_and (slice_get plan.memory_region r) (λ (region : Region). no_not_page region.page_size)
no_10 plan _ = never

abbrev no_11 : (plan : Plan) (place : Place) → No (HasBadPhysAddr plan place)
no_11 plan (At.Region r) =
    no_and (slice_get plan.memory_region r) (λ (region : Region). no_and region.phys_addr (λ (base : ℕ).
    no_sum (no_not (yes_multiple base region.page_size)) (no_less (2 ^ 40) (base + region.size))))
no_11 plan _ = never

-- two ranges are apart
pub apart : (a b : Range) → (leb a.1 b.0 ≡ true) ⊎ (leb b.1 a.0 ≡ true) → Meets a b → ⊥
apart a b (inl h) (address, a0, a1, b0, b1) = let e = leb-true a.1 b.0 h in omega (arith, a0, a1, b0, b1, e)
apart a b (inr h) (address, a0, a1, b0, b1) = let e = leb-true b.1 a.0 h in omega (arith, a0, a1, b0, b1, e)

pub apart_left : (a b : Range) → leb a.1 b.0 ≡ true → Meets a b → ⊥
apart_left a b h = apart a b (inl h)

pub apart_right : (a b : Range) → leb b.1 a.0 ≡ true → Meets a b → ⊥
apart_right a b h = apart a b (inr h)

abbrev no_meeting : (a b : Range) → No (Meets a b)
no_meeting a b = yes_either (apart_left a b) (apart_right a b) (found_if (leb a.1 b.0) (λ h. h)) (found_if (leb b.1 a.0) (λ h. h))

-- a range meets one of the ranges before a place
abbrev MeetsOne : Range → List (Option Range) → ℕ → Type 0
MeetsOne b ranges at = (earlier : ℕ) × (a : Range) × (earlier < at) × (slice_get ranges earlier ≡ Some (Some a)) × Meets a b

pub met_none : (b : Range) (ranges : List (Option Range)) → MeetsOne b ranges 0 → ⊥
met_none b ranges (earlier, a, less, is, meets) = omega (arith, less)

pub met_nowhere : (b : Range) (at : ℕ) → MeetsOne b [] at → ⊥
met_nowhere b at (earlier, a, less, is, meets) = cc is

pub met_first : (b : Range) (o : Option Range) (ranges : List (Option Range)) (at : ℕ) → ((a : Range) → o ≡ Some a → Meets a b → ⊥) → (MeetsOne b ranges at → ⊥) → MeetsOne b (o ∷ ranges) (suc at) → ⊥
met_first b o ranges at here there (zero, a, less, is, meets) = here a (same_Some o (Some a) is) meets
met_first b o ranges at here there (suc earlier, a, less, is, meets) = there (earlier, a, (omega (arith, less)), is, meets)

pub met_this : (b a : Range) → (Meets a b → ⊥) → (other : Range) → Some a ≡ Some other → Meets other b → ⊥
met_this b a h other is meets = h (subst (λ (r : Range). Meets r b) (sym (same_Some a other is)) meets)

pub met_not : (b a : Range) → None ≡ Some a → Meets a b → ⊥
met_not b a is meets = cc is

abbrev no_met : (b : Range) (ranges : List (Option Range)) (at : ℕ) → No (MeetsOne b ranges at)
no_met b ranges zero = Some (met_none b ranges)
no_met b [] (suc at) = Some (met_nowhere b (suc at))
no_met b (None ∷ ranges) (suc at) = found (met_first b None ranges at (met_not b)) (no_met b ranges at)
no_met b (Some a ∷ ranges) (suc at) = found_both (λ here. met_first b (Some a) ranges at (met_this b a here)) (no_meeting a b) (no_met b ranges at)

pub none_here : (ranges : List (Option Range)) (at : ℕ) (o : Option (Option Range)) → slice_get ranges at ≡ o → ((b : Range) → o ≡ Some (Some b) → MeetsOne b ranges at → ⊥) → MeetsEarlier ranges at → ⊥
none_here ranges at o is none (earlier, a, b, less, first, second, meets) = none b (sym is ∙ second) (earlier, a, less, first, meets)

pub met_that : (ranges : List (Option Range)) (at : ℕ) (b : Range) → (MeetsOne b ranges at → ⊥) → (other : Range) → Some (Some b) ≡ Some (Some other) → MeetsOne other ranges at → ⊥
met_that ranges at b h other is meets = h (subst (λ (r : Range). MeetsOne r ranges at) (sym (same_Some b other (same_Some (Some b) (Some other) is))) meets)

pub no_range : (ranges : List (Option Range)) (at : ℕ) → slice_get ranges at ≡ None → MeetsEarlier ranges at → ⊥
no_range ranges at is = none_here ranges at None is (λ b e meets. cc e)

pub empty_range : (ranges : List (Option Range)) (at : ℕ) → slice_get ranges at ≡ Some None → MeetsEarlier ranges at → ⊥
empty_range ranges at is = none_here ranges at (Some None) is (λ b e meets. cc (same_Some None (Some b) e))

pub no_range_met : (ranges : List (Option Range)) (at : ℕ) (b : Range) → slice_get ranges at ≡ Some (Some b) → (MeetsOne b ranges at → ⊥) → MeetsEarlier ranges at → ⊥
no_range_met ranges at b is h = none_here ranges at (Some (Some b)) is (met_that ranges at b h)

abbrev no_meets_of : (ranges : List (Option Range)) (at : ℕ) (o : Option (Option Range)) → slice_get ranges at ≡ o → No (MeetsEarlier ranges at)
no_meets_of ranges at None is = Some (no_range ranges at is)
no_meets_of ranges at (Some None) is = Some (empty_range ranges at is)
no_meets_of ranges at (Some (Some b)) is = found (no_range_met ranges at b is) (no_met b ranges at)

abbrev no_meets : (ranges : List (Option Range)) (at : ℕ) → No (MeetsEarlier ranges at)
no_meets ranges at = no_meets_of ranges at (slice_get ranges at) refl

abbrev no_12 : (plan : Plan) (place : Place) → No (MeetsGivenRange plan place)
no_12 plan (At.Region r) = no_meets (map given_range plan.memory_region) r
no_12 plan _ = never

abbrev no_of_map : {P : Map → Type 0} (plan : Plan) (d m : ℕ) → ((map : Map) → No (P map)) → No (OfMap plan d m P)
no_of_map plan d m f = no_and (slice_get plan.protection_domain d) (λ (domain : Domain). no_and (slice_get domain.map m) f)

abbrev no_13 : (plan : Plan) (place : Place) → No (NamesNoRegion plan place)
no_13 plan (At.Map d m) = no_of_map plan d m (λ (map : Map). no_none (region_named plan map.mr))
no_13 plan _ = never

abbrev no_14 : (plan : Plan) (place : Place) → No (HasBadVaddr plan place)
no_14 plan (At.Map d m) =
    no_of_map plan d m (λ (map : Map). no_and (the_region plan map.mr) (λ (region : Region).
    no_sum (no_not (yes_multiple map.vaddr region.page_size)) (no_less (2 ^ 38) (map.vaddr + region.size))))
no_14 plan _ = never

abbrev no_15 : (plan : Plan) (place : Place) → No (MeetsMap plan place)
no_15 plan (At.Map d m) = no_and (slice_get plan.protection_domain d) (λ (domain : Domain). no_meets (map (map_range plan) domain.map) m)
no_15 plan _ = never

pub not_empty : (c : ℕ) (text : List ℕ) → (c ∷ text ≡ []) → ⊥
not_empty c text h = cc h

pub permissions : (perms : List ℕ) → length perms ≡ count_of 114 perms + count_of 119 perms + count_of 120 perms → count_of 114 perms ≤ 1 → count_of 119 perms ≤ 1 → count_of 120 perms ≤ 1
    → (perms ≡ [] → ⊥) → (perms ≡ codes "w" → ⊥) → ArePermissions perms
permissions perms letters r w x some alone = record { letters = letters; r_once = r; w_once = w; x_once = x; not_empty = some; not_w_alone = alone }

pub permissions_of : (perms : List ℕ) → (length perms ≡ count_of 114 perms + count_of 119 perms + count_of 120 perms) × (count_of 114 perms ≤ 1) → (count_of 119 perms ≤ 1) × (count_of 120 perms ≤ 1)
    → (perms ≡ [] → ⊥) × (perms ≡ codes "w" → ⊥) → ArePermissions perms
permissions_of perms a b c = permissions perms a.0 a.1 b.0 b.1 c.0 c.1

abbrev yes_permissions : (perms : List ℕ) → Yes (ArePermissions perms)
yes_permissions perms =
    found_both (λ f c. f c)
    (found_both (permissions_of perms)
    (yes_both (yes_equal (length perms) (count_of 114 perms + count_of 119 perms + count_of 120 perms)) (yes_least (count_of 114 perms) 1)) (yes_both (yes_least (count_of 119 perms) 1) (yes_least (count_of 120 perms) 1)))
    (yes_both (no_text perms []) (no_text perms (codes "w")))

abbrev no_16 : (plan : Plan) (place : Place) → No (HasBadPerms plan place)
no_16 plan (At.Map d m) = no_of_map plan d m (λ (map : Map). no_not (yes_permissions map.perms))
no_16 plan _ = never

abbrev no_of_end : {P : End → Type 0} (plan : Plan) (c e : ℕ) → ((end : End) → No (P end)) → No (OfEnd plan c e P)
no_of_end plan c e f = no_and (slice_get plan.channel c) (λ (channel : Channel). no_and (slice_get channel.end e) f)

abbrev no_17 : (plan : Plan) (place : Place) → No (NamesNoDomain plan place)
no_17 plan (At.End c e) = no_of_end plan c e (λ (end : End). no_none (domain_named plan end.pd))
no_17 plan _ = never

abbrev no_18 : (plan : Plan) (place : Place) → No (HasIdTooHigh plan place)
no_18 plan (At.Irq d i) = no_and (slice_get plan.protection_domain d) (λ (domain : Domain). no_and (slice_get domain.irq i) (λ (irq : Irq). no_less 62 irq.id))
no_18 plan (At.End c e) = no_of_end plan c e (λ (end : End). no_less 62 end.id)
no_18 plan _ = never

pub none_named : (d : ℕ) → None ≡ Some d → ⊥
none_named d h = cc h

pub not_named : (x d : ℕ) → (x ≡ d → ⊥) → Some x ≡ Some d → ⊥
not_named x d h is = h (same_Some x d is)

abbrev no_named : (o : Option ℕ) (d : ℕ) → No (o ≡ Some d)
no_named None d = Some (none_named d)
no_named (Some x) d = found (not_named x d) (no_equal x d)

-- the interrupts of a domain, each at its place
pub interrupt_of : (plan : Plan) (d id : ℕ) → (IsSomeAnd (slice_get plan.protection_domain d) (λ (domain : Domain). SomeOf (λ (irq : Irq). irq.id ≡ id) domain.irq) → ⊥) → InterruptHas plan d id → ⊥
interrupt_of plan d id none h = of (slice_get plan.protection_domain d) none h.0 h.1
  where
    of : (o : Option Domain) → (IsSomeAnd o (λ (domain : Domain). SomeOf (λ (irq : Irq). irq.id ≡ id) domain.irq) → ⊥) → (i : ℕ) → IsSomeAnd o (λ (domain : Domain). IsSomeAnd (slice_get domain.irq i) (λ irq. irq.id ≡ id)) → ⊥
    of None none i h = h
    of (Some domain) none i h = none (i, h)

abbrev no_interrupt : (plan : Plan) (d id : ℕ) → No (InterruptHas plan d id)
no_interrupt plan d id =
    found (interrupt_of plan d id) (no_and (slice_get plan.protection_domain d) (λ (domain : Domain). no_some domain.irq (λ (irq : Irq). no_equal irq.id id)))

-- an end at this place of a channel's list that is an earlier one with this id in this domain
abbrev EndHas : Plan → ℕ → ℕ → ℕ → ℕ → ℕ → ℕ → End → Type 0
EndHas plan channel at d id c e end = IsEarlierEnd c e channel at × ((domain_named plan end.pd ≡ Some d) × (end.id ≡ id))

abbrev ChannelHas : Plan → ℕ → ℕ → ℕ → ℕ → ℕ → Channel → Type 0
ChannelHas plan channel at d id c this = (e : ℕ) × IsSomeAnd (slice_get this.end e) (EndHas plan channel at d id c e)

pub earlier_of : (plan : Plan) (channel at d id : ℕ) → (((c : ℕ) × IsSomeAnd (slice_get plan.channel c) (ChannelHas plan channel at d id c)) → ⊥) → EarlierEndHas plan channel at d id → ⊥
earlier_of plan channel at d id none (c, e, before, h) = none (c, of (slice_get plan.channel c) h)
  where
    inner : (o : Option End) → IsSomeAnd o (λ other. (domain_named plan other.pd ≡ Some d) × (other.id ≡ id)) → IsSomeAnd o (EndHas plan channel at d id c e)
    inner None h = h
    inner (Some end) h = (before, h)

    of : (o : Option Channel) → IsSomeAnd o (λ (this : Channel). IsSomeAnd (slice_get this.end e) (λ other. (domain_named plan other.pd ≡ Some d) × (other.id ≡ id))) → IsSomeAnd o (ChannelHas plan channel at d id c)
    of None h = h
    of (Some this) h = (e, inner (slice_get this.end e) h)

abbrev no_earlier : (plan : Plan) (channel at d id : ℕ) → No (EarlierEndHas plan channel at d id)
no_earlier plan channel at d id =
    found (earlier_of plan channel at d id) (no_keyed {P = ChannelHas plan channel at d id} plan.channel (λ c (this : Channel). no_keyed {P = EndHas plan channel at d id c} this.end (λ e (end : End).
    no_both (no_sum (no_less c channel) (no_both (no_equal c channel) (no_less e at))) (no_both (no_named (domain_named plan end.pd) d) (no_equal end.id id)))))

abbrev no_19 : (plan : Plan) (place : Place) → No (TakesId plan place)
no_19 plan (At.Irq d i) =
    no_and (slice_get plan.protection_domain d) (λ (domain : Domain). no_and (slice_get domain.irq i) (λ (irq : Irq). no_before no_equal irq.id (map (λ (other : Irq). other.id) domain.irq) i))
no_19 plan (At.End c e) =
    no_of_end plan c e (λ (end : End). no_and (domain_named plan end.pd) (λ (d : ℕ). no_sum (no_interrupt plan d end.id) (no_earlier plan c e d end.id)))
no_19 plan _ = never

abbrev no_20 : (plan : Plan) (place : Place) → No (JoinsOneDomain plan place)
no_20 plan (At.Channel c) = no_of_end plan c 0 (λ (first : End). no_of_end plan c 1 (λ (second : End). no_text first.pd second.pd))
no_20 plan _ = never

abbrev no_plan : (plan : Plan) (rule : ℕ) (place : Place) → No (BreaksPlanRule plan rule place)
no_plan plan rule place =
    no_match (rule == 5) (λ _. no_5 plan place) (λ _.
    no_match (rule == 6) (λ _. no_6 plan place) (λ _.
    no_match (rule == 7) (λ _. no_7 plan place) (λ _.
    no_match (rule == 8) (λ _. no_8 plan place) (λ _.
    no_match (rule == 9) (λ _. no_9 plan place) (λ _.
    no_match (rule == 10) (λ _. no_10 plan place) (λ _.
    no_match (rule == 11) (λ _. no_11 plan place) (λ _.
    no_match (rule == 12) (λ _. no_12 plan place) (λ _.
    no_match (rule == 13) (λ _. no_13 plan place) (λ _.
    no_match (rule == 14) (λ _. no_14 plan place) (λ _.
    no_match (rule == 15) (λ _. no_15 plan place) (λ _.
    no_match (rule == 16) (λ _. no_16 plan place) (λ _.
    no_match (rule == 17) (λ _. no_17 plan place) (λ _.
    no_match (rule == 18) (λ _. no_18 plan place) (λ _.
    no_match (rule == 19) (λ _. no_19 plan place) (λ _.
    no_match (rule == 20) (λ _. no_20 plan place) (λ _. never))))))))))))))))

-- ---- rules 21 to 30

abbrev yes_program : (role : Role) (program : List ℕ) → Yes (IsProgramOf role program)
yes_program For.NetDriver program = yes_text program (codes "eth_driver")
yes_program For.NetRxVirt program = yes_text program (codes "net_virt_rx")
yes_program For.NetTxVirt program = yes_text program (codes "net_virt_tx")
yes_program For.NetCopier program = yes_text program (codes "net_copier")
yes_program For.NetClient program = yes_sum (yes_text program (codes "net_sink")) (yes_sum (yes_text program (codes "net_source")) (yes_sum (yes_text program (codes "net_echo")) (yes_text program (codes "net_rogue"))))
yes_program For.SerialDriver program = yes_text program (codes "uart_driver")
yes_program For.SerialRxVirt program = yes_text program (codes "serial_virt_rx")
yes_program For.SerialTxVirt program = yes_text program (codes "serial_virt_tx")
yes_program For.SerialClient program = yes_sum (yes_text program (codes "serial_reader")) (yes_sum (yes_text program (codes "serial_speaker")) (yes_text program (codes "serial_rogue")))
yes_program For.BlkDriver program = yes_text program (codes "blk_driver")
yes_program For.BlkVirt program = yes_text program (codes "blk_virt")
yes_program For.BlkClient program = yes_sum (yes_text program (codes "blk_script")) (yes_text program (codes "blk_rogue"))

abbrev no_link : {P : Link Name → Type 0} (ends : Ends Name) → ((link : Link Name) → No (P link)) → No (OfLink P ends)
no_link (Way.Across link) f = f link
no_link (Way.FromDevice driver) f = never
no_link (Way.ToDevice driver) f = never

abbrev no_repeats : (before names : List (List ℕ)) → No (RepeatsName before names)
no_repeats before names =
    no_keyed {P = (λ key name. SomeOf (λ (other : List ℕ). other ≡ name) (before ++ take key names))} names
    (λ key (name : List ℕ). no_some (before ++ take key names) (λ (other : List ℕ). no_text other name))

abbrev yes_among : (names : List (List ℕ)) (name : List ℕ) → Yes (SomeOf (λ other. other ≡ name) names)
yes_among names name = yes_some names (λ (other : List ℕ). yes_text other name)

abbrev no_21 : (plan : Plan) (place : Place) → No (LacksRole plan place)
no_21 plan (At.Domain d) = no_and (slice_get plan.protection_domain d) (λ (domain : Domain). no_both None (no_not (yes_among (class_domains plan) domain.name)))
no_21 plan _ = never

pub bytes_differ : (a b : Mac) → (a.0 ≡ b.0 → ⊥) → Some a ≡ Some b → ⊥
bytes_differ a b h is = h (ap (λ (m : Mac). m.0) (same_Some a b is))

pub none_some : (b : Mac) → None ≡ Some b → ⊥
none_some b h = cc h

pub some_none : (a : Mac) → Some a ≡ None → ⊥
some_none a h = cc h

abbrev no_mac : (a b : Option Mac) → No (a ≡ b)
no_mac (Some a) (Some b) = found (bytes_differ a b) (no_text a.0 b.0)
no_mac None (Some b) = Some (none_some b)
no_mac (Some a) None = Some (some_none a)
no_mac None None = None

abbrev no_28 : (plan : Plan) (place : Place) → No (HasBadMac plan place)
no_28 plan (At.NetClient c) =
    no_and plan.net (λ net. no_and (slice_get net.client c) (λ (client : NetClient).
    no_sum (no_none (mac_of client.mac)) (no_before no_mac (mac_of client.mac) (map (λ (other : NetClient). mac_of other.mac) net.client) c)))
no_28 plan _ = never

abbrev no_29 : (plan : Plan) (place : Place) → No (HasBadPartition plan place)
no_29 plan (At.BlkClient c) =
    no_and plan.blk (λ blk. no_and (slice_get blk.client c) (λ (client : BlkClient).
    no_sum (no_less 3 client.partition) (no_before no_equal client.partition (map (λ (other : BlkClient). other.partition) blk.client) c)))
no_29 plan _ = never

abbrev no_not_clients : (n : ℕ) → No (¬ IsClientCount n)
no_not_clients n = no_not (yes_both (yes_least 1 n) (yes_least n 8))

abbrev no_not_buffers : (n : ℕ) → No (¬ IsBufferCount n)
no_not_buffers n = no_not (yes_both (yes_least 1 n) (yes_least n 512))

abbrev no_30 : (plan : Plan) (place : Place) → No (IsPastLimit plan place)
no_30 plan (At.Region r) = no_both (no_least 256 r) (no_less r (length plan.memory_region))
no_30 plan (At.Map d m) = no_and (slice_get plan.protection_domain d) (λ (domain : Domain). no_both (no_least 64 m) (no_less m (length domain.map)))
no_30 plan (At.Irq d i) = no_and (slice_get plan.protection_domain d) (λ (domain : Domain). no_both (no_least 8 i) (no_less i (length domain.irq)))
no_30 plan (At.Channel c) = no_both (no_least 256 c) (no_less c (length plan.channel))
no_30 plan At.Net = no_and plan.net (λ net. no_sum (no_not_clients (length net.client)) (no_not_buffers net.rx_buffers))
no_30 plan (At.NetClient c) = no_and plan.net (λ net. no_and (slice_get net.client c) (λ (client : NetClient). no_sum (no_not_buffers client.rx_buffers) (no_not_buffers client.tx_buffers)))
no_30 plan At.Serial = no_and plan.serial (λ serial. no_not_clients (length serial.client))
no_30 plan At.Blk = no_and plan.blk (λ blk. no_not_clients (length blk.client))
no_30 plan (At.BlkClient c) = no_and plan.blk (λ blk. no_and (slice_get blk.client c) (λ (client : BlkClient). no_not_buffers client.buffers))
no_30 plan _ = never

abbrev no_31 : (plan : Plan) (place : Place) → No (HasBadMaxFrame plan place)
no_31 plan At.Net = no_and plan.net (λ net. no_sum (no_less net.max_frame 1514) (no_less 9014 net.max_frame))
no_31 plan _ = never

abbrev yes_buffer : (size : ℕ) → Yes (IsBufferSize size)
yes_buffer size = yes_three (yes_power size 15) (yes_least 2048 size) (yes_least size 16384)

abbrev no_bad_buffer : (longest size : ℕ) → No (IsBadBuffer longest size)
no_bad_buffer longest size = no_sum (no_not (yes_buffer size)) (no_less size longest)

abbrev no_32 : (plan : Plan) (place : Place) → No (HasBadBufferSize plan place)
no_32 plan At.Net = no_and plan.net (λ net. no_bad_buffer net.max_frame net.rx_buffer_size)
no_32 plan (At.NetClient c) = no_and plan.net (λ net. no_and (slice_get net.client c) (λ (client : NetClient). no_sum (no_bad_buffer net.max_frame client.rx_buffer_size) (no_bad_buffer net.max_frame client.tx_buffer_size)))
no_32 plan _ = never

abbrev no_class : (plan : Plan) (rule : ℕ) (place : Place) → No (BreaksClassRule plan rule place)
no_class plan rule place =
    no_match (rule == 21) (λ _. no_21 plan place) (λ _.
    no_match (rule == 28) (λ _. no_28 plan place) (λ _.
    no_match (rule == 29) (λ _. no_29 plan place) (λ _.
    no_match (rule == 30) (λ _. no_30 plan place) (λ _.
    no_match (rule == 31) (λ _. no_31 plan place) (λ _.
    no_match (rule == 32) (λ _. no_32 plan place) (λ _. never))))))

-- ---- rules on the rows of an element

abbrev yes_joins : (link : List ℕ × List ℕ) (channel : Channel) → Yes (Joins link channel)
yes_joins link channel =
    yes_and (slice_get channel.end 0) (λ (first : End). yes_and (slice_get channel.end 1) (λ (second : End).
    yes_sum (yes_both (yes_text first.pd link.0) (yes_text second.pd link.1)) (yes_both (yes_text first.pd link.1) (yes_text second.pd link.0))))

abbrev yes_joined : (plan : Plan) (link : List ℕ × List ℕ) → Yes (AreJoined plan link)
yes_joined plan link = yes_some plan.channel (λ (channel : Channel). yes_joins link channel)

abbrev yes_granted : (plan : Plan) (right : List ℕ × List ℕ × Bool) → Yes (IsGranted plan right)
yes_granted plan right =
    yes_and (the_domain plan right.0) (λ (domain : Domain). yes_some domain.map (λ (m : Map).
    yes_both (yes_text m.mr right.1) (yes_both (yes_less 0 (count_of 114 m.perms)) (yes_match right.2 (yes_less 0 (count_of 119 m.perms)) yes_true))))

abbrev no_stranger : (plan : Plan) (region : List ℕ) (names : List (List ℕ)) → No (HasStranger plan region names)
no_stranger plan region names =
    no_some plan.protection_domain (λ (domain : Domain). no_both (no_not (yes_among names domain.name)) (no_some domain.map (λ (m : Map). no_text m.mr region)))

abbrev no_smaller : (plan : Plan) (need : List ℕ × ℕ) → No (IsSmaller plan need)
no_smaller plan need = no_and (the_region plan need.0) (λ (region : Region). no_less region.size need.1)

abbrev no_rows : (plan : Plan) (rule : ℕ) (e : Element) → No (BreaksByRows plan rule e)
no_rows plan rule e =
    no_match (rule == 13) (λ _. no_sum
    (no_some e.queues (λ (q : QueueUse Name). no_link q.ends (λ (link : Link Name). no_none (region_named plan link.region))))
    (no_some e.pools (λ (p : PoolUse Name). no_none (region_named plan p.region)))) (λ _.
    no_match (rule == 17) (λ _. no_some e.roles (λ (r : RoleUse Name). no_none (domain_named plan r.domain))) (λ _.
    no_match (rule == 21) (λ _. no_sum
    (no_some e.roles (λ (r : RoleUse Name). no_not (yes_and (the_domain plan r.domain) (λ (domain : Domain). yes_program r.role domain.program))))
    (no_repeats (flat_map domains_of (elements_before plan e.place)) (domains_of e))) (λ _.
    no_match (rule == 22) (λ _. no_sum
    (no_some e.queues (λ (q : QueueUse Name). no_link q.ends (λ (link : Link Name). no_not (yes_joined plan (link.from, link.to)))))
    (no_and e.driver (λ (name : Name). no_not (yes_and (the_domain plan name) (λ (domain : Domain). yes_less 0 (length domain.irq)))))) (λ _.
    no_match (rule == 23) (λ _. no_sum
    (no_some e.queues (λ (q : QueueUse Name). no_link q.ends (λ (link : Link Name).
    no_sum (no_not (yes_granted plan (link.from, link.region, true))) (no_not (yes_granted plan (link.to, link.region, true))))))
    (no_some e.pools (λ (p : PoolUse Name). no_some p.must (λ (g : Grant Name). no_not (yes_granted plan (g.domain, p.region, g.writes)))))) (λ _.
    no_match (rule == 24) (λ _. no_sum (no_sum
    (no_some e.queues (λ (q : QueueUse Name). no_link q.ends (λ (link : Link Name). no_stranger plan link.region (link.from ∷ link.to ∷ []))))
    (no_some e.pools (λ (p : PoolUse Name). no_stranger plan p.region (allowed p))))
    (no_repeats (flat_map regions_of (elements_before plan e.place)) (regions_of e))) (λ _.
    no_match (rule == 25) (λ _. no_some e.queues (λ (q : QueueUse Name). no_not (yes_power q.capacity 15))) (λ _.
    no_match (rule == 26) (λ _. no_some e.queues (λ (q : QueueUse Name). no_less q.capacity q.holds)) (λ _.
    no_match (rule == 27) (λ _. no_sum
    (no_some e.queues (λ (q : QueueUse Name). no_link q.ends (λ (link : Link Name). no_smaller plan (link.region, queue_end q))))
    (no_some e.pools (λ (p : PoolUse Name). no_smaller plan (p.region, pool_bytes p)))) (λ _. never)))))))))

abbrev no_element : {P : Element → Type 0} (plan : Plan) (place : Place) → ((e : Element) → No (P e)) → No (OfElement plan place P)
no_element plan At.Net f = no_and plan.net (λ net. f (net_element net))
no_element plan (At.NetClient c) f = no_and plan.net (λ net. no_and (slice_get net.client c) (λ client. f (net_client_element net c client)))
no_element plan At.Serial f = no_and plan.serial (λ serial. f (serial_element serial))
no_element plan (At.SerialClient c) f = no_and plan.serial (λ serial. no_and (slice_get serial.client c) (λ client. f (serial_client_element serial c client)))
no_element plan At.Blk f = no_and plan.blk (λ blk. f (blk_element blk))
no_element plan (At.BlkClient c) f = no_and plan.blk (λ blk. no_and (slice_get blk.client c) (λ client. f (blk_client_element blk c client)))
no_element plan _ f = never

-- ---- all rules

abbrev pub no_rule : (plan : Plan) (rule : ℕ) (place : Place) → No (broken plan rule place)
no_rule plan rule place =
    no_sum (no_match (nat_lt rule 21) (λ _. no_plan plan rule place) (λ _. no_class plan rule place)) (no_element plan place (λ (e : Element). no_rows plan rule e))

-- no element breaks a rule
pub kept_none : (P : Place → Type 0) → IsKept P []
kept_none P k p is h = cc is

pub kept_first : (P : Place → Type 0) (place : Place) (places : List Place) → (P place → ⊥) → IsKept P places → IsKept P (place ∷ places)
kept_first P place places here there zero p is h = here (subst P (sym (same_Some place p is)) h)
kept_first P place places here there (suc k) p is h = there k p is h

abbrev pub all_keep : (P : Place → Type 0) → ((place : Place) → No (P place)) → (places : List Place) → Yes (IsKept P places)
all_keep P f [] = Some (kept_none P)
all_keep P f (place ∷ places) = found_both (kept_first P place places) (f place) (all_keep P f places)

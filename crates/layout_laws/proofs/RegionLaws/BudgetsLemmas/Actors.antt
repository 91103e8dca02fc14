use Rattle.std.proofs.Common.{◌≡◌, ⊎_elim, ◌<◌, ◌≤◌, ◌+◌, ◌*◌, ◌-◌, ◌++◌, ℕ, suc, true, false, not, is_some, Some, None, Option, List, [], ◌∷◌, codes, length, length-append, map, filter, flat_map, slice_get, refl, sym, ap, ◌∙◌, arith, inl, inr}
use Rattle.std.specs.Option.{option_map_or, option_map}
use Rattle.std.specs.Str.{bytes_eq}
use Rattle.std.proofs.lemmas.List.{length-map}
use Rattle.std.proofs.lemmas.Option.{slice_get-map}
use Rattle.std.proofs.lemmas.Slice.Eq.{bytes_eq-Decides}
use Rattle.sdf_plan.specs.declared.place.Place.TheVariants as At
use Rattle.sdf_plan.specs.declared.plan.Plan.{Plan}
use Rattle.sdf_plan.specs.declared.plan.Domain.{Domain}
use Rattle.sdf_plan.specs.declared.plan.Net.{Net}
use Rattle.sdf_plan.specs.declared.plan.Serial.{Serial}
use Rattle.sdf_plan.specs.declared.plan.Blk.{Blk}
use Rattle.trace_text.specs.declared.trace.Trace.{Trace}
use Rattle.sdf_check.specs.Names.{StandsBefore, place_of, domain_names, net_domains, net_client_domains, serial_domains, serial_client_domains, blk_domains, blk_client_domains}
use Rattle.sdf_check.specs.ClassRules.{SomeOf, class_domains, net_names, serial_names, blk_names}
use Rattle.sdf_check.specs.Valid.{Valid}
use Rattle.sdf_check.proofs.ListLemmas.{get-either}
use Rattle.sdf_check.proofs.NamedLemmas.{named-none}
use Rattle.sdf_check.proofs.SoughtLemmas.{here-some}
use Rattle.sdf_check.proofs.ClassLemmas.{domains_same}
use Rattle.region_layout.specs.Rows.{acts, one_if, acting_count, actor_named, actors_of, devices_of}
use Rattle.region_layout.proofs.NameLemmas.{acting_and_devices}
use Rattle.region_layout.proofs.WalkLemmas.{kept, domain_walked}
use Rattle.expect_core.specs.Budgets.{counts_of, net_actors, serial_actors, blk_actors}
use Rattle.expect_core.specs.Budgets as Counted
use Rattle.layout_laws.specs.Sound.{IsActor}
use Rattle.layout_laws.proofs.Lists.{option_cases, all-at, get-below}
use Rattle.layout_laws.proofs.Found.{found-at}
use Rattle.layout_laws.proofs.Acting.{class_acts}
use Rattle.layout_laws.proofs.Once.{domains_once}
use Rattle.layout_laws.proofs.RegionLaws.BudgetsLemmas.Places.{IsIn, Distinct, some_is, distinct_of, few_of, distinct_filter, from_filter}

name_of : Domain → List ℕ
name_of d = d.name

abbrev acting : Plan → List (List ℕ)
acting plan = map (λ (d : Domain). d.name) (filter acts plan.protection_domain)

flat_count : {C : Type 0} (names : C → List (List ℕ)) (many : ℕ) (clients : List C) → ((x : C) → length (names x) ≡ many) → (times : ℕ → ℕ) → times 0 ≡ 0 → ((k : ℕ) → times (suc k) ≡ many + times k) → length (flat_map names clients) ≡ times (length clients)
flat_count names many [] counts times none steps = sym none
flat_count names many (x ∷ rest) counts times none steps =
    let later = flat_count names many rest counts times none steps in
    let size = counts x in
    let step = steps (length rest) in
    length-append (names x) (flat_map names rest) ∙ omega (arith, later, size, step)

module _ (plan : Plan) (valid : Valid plan) where
  domains_distinct : Distinct (domain_names plan)
  domains_distinct = distinct_of (domain_names plan) (λ i j a lt p q.
      let below = get-below (domain_names plan) j a q in
      let n = length-map plan.protection_domain (λ (d : Domain). d.name) in
      let within : j < length plan.protection_domain = omega (arith, below, n) in
      go i j a lt p q within (slice_get plan.protection_domain j) refl)
    where
      go : (i j : ℕ) (a : List ℕ) → i < j → slice_get (domain_names plan) i ≡ Some a → slice_get (domain_names plan) j ≡ Some a → j < length plan.protection_domain → (o : Option Domain) → slice_get plan.protection_domain j ≡ o → ⊥
      go i j a lt p q within None is = let n = slice_get-map (λ (d : Domain). d.name) plan.protection_domain j in let e : Some a ≡ None = sym q ∙ (n ∙ ap (option_map (λ (d : Domain). d.name)) is) in cc
      go i j a lt p q within (Some d) is =
          let n = slice_get-map (λ (d : Domain). d.name) plan.protection_domain j in
          let same : a ≡ d.name = some_is (sym q ∙ (n ∙ ap (option_map (λ (d : Domain). d.name)) is)) in
          kept plan 5 (At.Domain j) valid (omega arith) (omega arith) (domain_walked plan j within)
          (here-some (slice_get plan.protection_domain j) d (λ (x : Domain). StandsBefore x.name (domain_names plan) j) is (i, lt, p ∙ ap Some same))

  acting_distinct : Distinct (acting plan)
  acting_distinct = distinct_filter (λ (d : Domain). d.name) acts plan.protection_domain domains_distinct

  -- a domain that acts is named by a class
  acting_named : (k : ℕ) (a : List ℕ) → slice_get (acting plan) k ≡ Some a → IsIn a (class_domains plan)
  acting_named k a at = go (slice_get (filter acts plan.protection_domain) k) refl
    where
      go : (o : Option Domain) → slice_get (filter acts plan.protection_domain) k ≡ o → IsIn a (class_domains plan)
      go None is = let e : Some a ≡ None = sym at ∙ (slice_get-map (λ (d : Domain). d.name) (filter acts plan.protection_domain) k ∙ ap (option_map (λ (d : Domain). d.name)) is) in cc
      go (Some d) is =
          let same : a ≡ d.name = some_is (sym at ∙ (slice_get-map (λ (d : Domain). d.name) (filter acts plan.protection_domain) k ∙ ap (option_map (λ (d : Domain). d.name)) is)) in
          let from = from_filter acts plan.protection_domain k d is in
          elim (option_cases (place_of d.name (class_domains plan))) [
            | inl none ↦
                let runs : d.program ≡ codes "idle" → ⊥ = λ e. (let yes : bytes_eq d.program (codes "idle") ≡ true = (bytes_eq-Decides d.program (codes "idle")).1 e in let no : false ≡ true = ap not (sym yes) ∙ from.2 in cc) in
                absurd (kept plan 21 (At.Domain from.0) valid (omega arith) (omega arith) (domain_walked plan from.0 (get-below plan.protection_domain from.0 d from.1))
                (here-some (slice_get plan.protection_domain from.0) d (λ (x : Domain). (x.program ≡ codes "idle" → ⊥) × (SomeOf (λ name. name ≡ x.name) (class_domains plan) → ⊥)) from.1 (runs, named-none d.name (class_domains plan) none)))
            | inr some ↦ (some.0, (found-at d.name (class_domains plan) some.0 some.1).1 ∙ ap Some (sym same))
          ]

  acting_length : length (acting plan) ≡ acting_count plan
  acting_length = length-map (filter acts plan.protection_domain) (λ (d : Domain). d.name)

  named_distinct : Distinct (class_domains plan)
  named_distinct = distinct_of (class_domains plan) (λ i j a lt p q. domains_once plan valid j a q (i, lt, p))

  -- and the other way round
  named_acting : (k : ℕ) (a : List ℕ) → slice_get (class_domains plan) k ≡ Some a → IsIn a (acting plan)
  unfolding actors_of
  named_acting k a at =
      let actor : IsActor plan a = all-at (IsActor plan) (class_domains plan) (class_acts plan valid) k a at in
      let n = acting_length in
      let less = actor.1 in
      ⊎_elim (λ (h : slice_get (acting plan) (actor_named plan a).0 ≡ Some a). ((actor_named plan a).0, h))
      (λ (h : (length (acting plan) ≤ (actor_named plan a).0) × (slice_get (devices_of plan) ((actor_named plan a).0 - length (acting plan)) ≡ Some a)). let no : ⊥ = omega (arith, n, less, h.0) in absurd no)
      (get-either (acting plan) (devices_of plan) (actor_named plan a).0 a actor.0)

  -- the domains that act are as many as the classes name
  pub acting_is : acting_count plan ≡ length (class_domains plan)
  acting_is =
      let few = few_of (acting plan) (class_domains plan) acting_distinct acting_named in
      let many = few_of (class_domains plan) (acting plan) named_distinct named_acting in
      let n = acting_length in
      omega (arith, few, many, n)

  net_count : (o : Option Net) → length (option_map_or (λ (x : Net). net_domains x ++ flat_map net_client_domains x.client) o []) + one_if (is_some o) ≡ net_actors (option_map (λ (x : Net). length x.client) o)
  net_count None = refl
  net_count (Some x) =
      let flat = flat_count net_client_domains 2 x.client (λ c. refl) (λ k. 2 * k) (omega arith) (λ k. omega arith) in
      let all = length-append (net_domains x) (flat_map net_client_domains x.client) in
      omega (arith, flat, all)

  serial_count : (o : Option Serial) → length (option_map_or (λ (x : Serial). serial_domains x ++ flat_map serial_client_domains x.client) o []) + one_if (is_some o) ≡ serial_actors (option_map (λ (x : Serial). length x.client) o)
  serial_count None = refl
  serial_count (Some x) =
      let flat = flat_count serial_client_domains 1 x.client (λ c. refl) (λ k. k) refl (λ k. omega arith) in
      let all = length-append (serial_domains x) (flat_map serial_client_domains x.client) in
      omega (arith, flat, all)

  blk_count : (o : Option Blk) → length (option_map_or (λ (x : Blk). blk_domains x ++ flat_map blk_client_domains x.client) o []) + one_if (is_some o) ≡ blk_actors (option_map (λ (x : Blk). length x.client) o)
  blk_count None = refl
  blk_count (Some x) =
      let flat = flat_count blk_client_domains 1 x.client (λ c. refl) (λ k. k) refl (λ k. omega arith) in
      let all = length-append (blk_domains x) (flat_map blk_client_domains x.client) in
      omega (arith, flat, all)

  pub actors_are : (trace : Trace) → Counted.actors_of (counts_of plan trace) ≡ length (actors_of plan)
  actors_are trace =
      let net = net_count plan.net in
      let serial = serial_count plan.serial in
      let blk = blk_count plan.blk in
      let all = acting_and_devices plan in
      let one = length-append (net_names net_domains net_client_domains plan ++ serial_names serial_domains serial_client_domains plan) (blk_names blk_domains blk_client_domains plan) in
      let two = length-append (net_names net_domains net_client_domains plan) (serial_names serial_domains serial_client_domains plan) in
      let named = ap length (domains_same plan) in
      omega (arith, net, serial, blk, all, one, two, named, acting_is)

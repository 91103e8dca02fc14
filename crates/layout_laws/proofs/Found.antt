use Rattle.std.proofs.Common.{◌≡◌, ℕ, ◌<◌, ◌≤◌, ⊎_elim, List, length, get_or, Some, slice_get, sym, ap, ◌∙◌, true, false, arith}
use Rattle.std.specs.Option.{option_and_then}
use Rattle.std.proofs.lemmas.Bool.{cases_lt}
use Rattle.std.proofs.lemmas.Option.{slice_get-get_or}
use Rattle.std.proofs.lemmas.List.Quantifiers.{position-Some}
use Rattle.std.proofs.lemmas.Slice.Eq.{bytes_eq-Decides}
use Rattle.std.specs.Str.{bytes_eq}
use Rattle.std.proofs.lemmas.List.{length-map}
use Rattle.sdf_plan.specs.declared.plan.Plan.{Plan}
use Rattle.sdf_plan.specs.declared.plan.Region.{Region}
use Rattle.sdf_check.specs.Names.{place_of, region_names, region_named}
use Rattle.sdf_check.specs.Rules.{the_region}
use Rattle.sdf_check.specs.ClassRules.{IsSmaller}
use Rattle.sdf_check.proofs.SoughtLemmas.{here-some}
use Rattle.layout_laws.proofs.Lists.{there_is}

-- a name that is found stands at its place
pub found-at : (name : List ℕ) (names : List (List ℕ)) (at : ℕ) → place_of name names ≡ Some at → (at < length names) × (slice_get names at ≡ Some name)
found-at name names at is =
    let found : (at < length names) × (bytes_eq (get_or names at name) name ≡ true) × ((k : ℕ) → k < at → bytes_eq (get_or names k name) name ≡ false)
    = position-Some (λ other. bytes_eq other name) names at name is in
    (found.0, slice_get-get_or names at name found.0 ∙ ap Some ((bytes_eq-Decides (get_or names at name) name).0 found.1))

-- and nowhere before it
pub found-first : (name : List ℕ) (names : List (List ℕ)) (at j : ℕ) → place_of name names ≡ Some at → slice_get names j ≡ Some name → at ≤ j
found-first name names at j is there = ⊎_elim (λ (before : j < at). absurd (differs before)) (λ (behind : at ≤ j). behind) (cases_lt j at)
  where
    found : (at < length names) × (bytes_eq (get_or names at name) name ≡ true) × ((k : ℕ) → k < at → bytes_eq (get_or names k name) name ≡ false)
    found = position-Some (λ other. bytes_eq other name) names at name is

    differs : j < at → ⊥
    differs before =
        let inside = found.0 in
        let within : j < length names = omega (arith, before, inside) in
        let same : get_or names j name ≡ name = let e : Some (get_or names j name) ≡ Some name = sym (slice_get-get_or names j name within) ∙ there in cc in
        let no : bytes_eq (get_or names j name) name ≡ false = found.2 j before in
        let yes : bytes_eq (get_or names j name) name ≡ true = (bytes_eq-Decides (get_or names j name) name).1 same in
        let e : true ≡ false = sym yes ∙ no in cc

-- the region of a name, which is as large as it has to be
pub large-region : (plan : Plan) (key : List ℕ) (need r : ℕ) → (IsSmaller plan (key, need) → ⊥) → region_named plan key ≡ Some r
    → (region : Region) × (slice_get plan.memory_region r ≡ Some region) × (need ≤ region.size)
large-region plan key need r large is =
    let less : r < length (region_names plan) = (found-at key (region_names plan) r is).0 in
    let within : r < length plan.memory_region = rw (← length-map plan.memory_region (λ (x : Region). x.name)) less in
    let there = there_is plan.memory_region r within in
    let the : the_region plan key ≡ Some there.0 = ap (option_and_then (λ k. slice_get plan.memory_region k)) is ∙ there.1 in (
      there.0,
      there.1,
      ⊎_elim (λ (small : there.0.size < need). absurd (large (here-some (the_region plan key) there.0 (λ (x : Region). x.size < need) the small)))
          (λ (enough : need ≤ there.0.size). enough) (cases_lt there.0.size need),
    )

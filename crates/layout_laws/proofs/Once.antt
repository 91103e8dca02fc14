-- No name stands twice among those that elements name, where none names one again.
use Rattle.std.proofs.Common.{◌≡◌, ℕ, zero, suc, ◌+◌, ◌-◌, ◌<◌, ◌≤◌, inr, ⊎_elim, List, [], ◌∷◌, ◌++◌, length, take, flat_map, Some, slice_get, refl, sym, ap, ◌∙◌, subst, arith, append_assoc}
use Rattle.std.specs.Bool.{⊤}
use Rattle.std.proofs.lemmas.List.{append-nil}
use Rattle.std.proofs.lemmas.Option.{slice_get_within}
use Rattle.sdf_plan.specs.declared.plan.Plan.{Plan}
use Rattle.sdf_plan.specs.ClassTable.Names.{domains_of, regions_of}
use Rattle.sdf_plan.specs.ClassTable.Order.{elements_before}
use Rattle.sdf_plan.specs.ClassTable.Rows.{Name}
use Rattle.sdf_plan.specs.ClassTable.Table.{Element, table_of}
use Rattle.sdf_plan.proofs.ClassTable.Everywhere.{all-at}
use Rattle.sdf_plan.proofs.ClassTable.Order.{placed}
use Rattle.sdf_check.specs.Names.{StandsBefore}
use Rattle.sdf_check.specs.ClassRules.{RepeatsName, SomeOf, class_regions, class_domains}
use Rattle.sdf_check.specs.Valid.{Valid, BreaksByRows}
use Rattle.sdf_check.proofs.ListLemmas.{get-left, get-right, get-either}
use Rattle.sdf_check.proofs.SoughtLemmas.{here-some}
use Rattle.layout_laws.specs.Sound.{NoNameTwice}
use Rattle.layout_laws.proofs.Tables.{kept-table}

take-get : {X : Type 0} (xs : List X) (k j : ℕ) (x : X) → j < k → slice_get xs j ≡ Some x → slice_get (take k xs) j ≡ Some x
take-get [] k j x less at = cc
take-get (y ∷ xs) zero j x less at = absurd (omega (arith, less))
take-get (y ∷ xs) (suc k) zero x less at = at
take-get (y ∷ xs) (suc k) (suc j) x less at = take-get xs k j x (omega (arith, less)) at

among : (name : Name) (names : List Name) (k : ℕ) → slice_get names k ≡ Some name → SomeOf (λ other. other ≡ name) names
among name names k at = (k, here-some (slice_get names k) name (λ other. other ≡ name) at refl)

-- the names of one more element
join-once : (before names : List Name) → NoNameTwice before → (RepeatsName before names → ⊥) → NoNameTwice (before ++ names)
join-once before names once fresh at name is stands =
    ⊎_elim
    (λ (here : slice_get before at ≡ Some name).
    let inside = slice_get_within before at name here in
    ⊎_elim (λ (there : slice_get before stands.0 ≡ Some name). once at name here (stands.0, stands.1, there))
    (λ (there : (length before ≤ stands.0) × (slice_get names (stands.0 - length before) ≡ Some name)). let no : ⊥ = omega (arith, inside, there.0, stands.1) in no)
    (get-either before names stands.0 name stands.2))
    (λ (here : (length before ≤ at) × (slice_get names (at - length before) ≡ Some name)).
    let key = at - length before in
    fresh (
      key,
      here-some (slice_get names key) name (λ n. SomeOf (λ other. other ≡ n) (before ++ take key names)) here.1
          (⊎_elim (λ (there : slice_get before stands.0 ≡ Some name). among name (before ++ take key names) stands.0 (get-left before (take key names) stands.0 name there))
          (λ (there : (length before ≤ stands.0) × (slice_get names (stands.0 - length before) ≡ Some name)).
          let less : stands.0 - length before < key = omega (arith, there.0, here.0, stands.1) in
          among name (before ++ take key names) (length before + (stands.0 - length before))
          (get-right before (take key names) (stands.0 - length before) name (take-get names key (stands.0 - length before) name less there.1)))
          (get-either before names stands.0 name stands.2)),
    )) (get-either before names at name is)

none-once : NoNameTwice []
none-once at name is stands = cc

-- the names of elements, none of which names one again
all-once : (give : Element → List Name) (before : List Name) (es : List Element) → NoNameTwice before
    → ((n : ℕ) (e : Element) → slice_get es n ≡ Some e → RepeatsName (before ++ flat_map give (take n es)) (give e) → ⊥) → NoNameTwice (before ++ flat_map give es)
all-once give before [] once fresh = subst NoNameTwice (sym (append-nil before)) once
all-once give before (e ∷ rest) once fresh =
    let mine = join-once before (give e) once (λ r. fresh 0 e refl (subst (λ (b : List Name). RepeatsName b (give e)) (sym (append-nil before)) r)) in
    subst NoNameTwice (append_assoc before (give e) (flat_map give rest))
    (all-once give (before ++ give e) rest mine (λ n other at r.
    fresh (suc n) other at (subst (λ (b : List Name). RepeatsName b (give other)) (append_assoc before (give e) (flat_map give (take n rest))) r)))

module _ (plan : Plan) where
  table-once : (give : Element → List Name) → ((n : ℕ) (e : Element) → slice_get (table_of plan) n ≡ Some e → RepeatsName (flat_map give (elements_before plan e.place)) (give e) → ⊥)
      → NoNameTwice (flat_map give (table_of plan))
  table-once give fresh = all-once give [] (table_of plan) none-once (λ n e at r.
      let number = (placed plan (λ x. ⊤) n e at).0 in
      fresh n e at (subst (λ k. RepeatsName (flat_map give (take k (table_of plan))) (give e)) (sym number) r))

  -- no two keys of class elements name one region, and none one domain
  pub regions_once : Valid plan → NoNameTwice (class_regions plan)
  regions_once valid = table-once regions_of (λ n e at twice. all-at (λ x. BreaksByRows plan 24 x → ⊥) (table_of plan) (kept-table plan 24 valid (omega arith) (omega arith)) n e at (inr twice))

  pub domains_once : Valid plan → NoNameTwice (class_domains plan)
  domains_once valid = table-once domains_of (λ n e at twice. all-at (λ x. BreaksByRows plan 21 x → ⊥) (table_of plan) (kept-table plan 21 valid (omega arith) (omega arith)) n e at (inr twice))

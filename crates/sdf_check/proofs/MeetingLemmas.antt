use Rattle.std.proofs.Common.{◌≡◌, ℕ, ◌+◌, ◌<◌, List, [], ◌∷◌, ◌++◌, length, map, get_or, Option, Some, None, refl, sym, ◌∙◌, ap, subst, arith, add-zero, ⊎_elim}
use Rattle.std.specs.List.{slice_get}
use Rattle.std.specs.Option.{IsSomeAnd}
use Rattle.std.proofs.lemmas.Bool.{cases_eq}
use Rattle.sdf_plan.specs.declared.plan.Plan.{Plan}
use Rattle.sdf_plan.specs.declared.plan.Domain.{Domain}
use Rattle.sdf_plan.specs.declared.plan.Map.{Map}
use Rattle.sdf_check.specs.Rules.{map_range}
use Rattle.sdf_check.specs.Meetings.{IsFirstMeeting, AreFirstMapsUpTo}
use Rattle.sdf_check.proofs.ListLemmas.{get-left, get-right}
use Rattle.sdf_check.proofs.SweepLemmas.{some-inj}
use Rattle.sdf_check.proofs.UseLemmas.{item-at}

some-left : {X : Type 0} (xs ys : List X) (k : ℕ) (P : X → Type 0) (o : Option X) → slice_get xs k ≡ o → IsSomeAnd o P → IsSomeAnd (slice_get (xs ++ ys) k) P
some-left xs ys k P None is h = absurd h
some-left xs ys k P (Some x) is h = rw (get-left xs ys k x is) h

-- one more domain
pub firsts-step : (plan : Plan) (items : List Domain) (old new : List (Option ℕ)) (at : ℕ) (domain : Domain) (maps : List Map) (first : Option ℕ)
    → items ≡ plan.protection_domain → at < length items → domain ≡ get_or items at domain → maps ≡ domain.map
    → IsFirstMeeting (map (map_range plan) maps) first → new ≡ old ++ first ∷ [] → length old ≡ at → AreFirstMapsUpTo plan old at → AreFirstMapsUpTo plan new (at + 1)
firsts-step plan items old new at domain maps first same less is em meeting pushed len before = λ d other within there.
    ⊎_elim (λ (here : d ≡ at).
    let eq : domain ≡ other = some-inj (sym (item-at plan.protection_domain items at domain same less is) ∙ subst (λ n. slice_get plan.protection_domain n ≡ Some other) here there) in
    let got : slice_get (old ++ first ∷ []) d ≡ Some first = subst (λ n. slice_get (old ++ first ∷ []) n ≡ Some first) (add-zero (length old) ∙ len ∙ sym here) (get-right old (first ∷ []) 0 first refl) in
    let goal : IsFirstMeeting (map (map_range plan) other.map) first = subst (λ (ms : List Map). IsFirstMeeting (map (map_range plan) ms) first) (em ∙ ap (λ (x : Domain). x.map) eq) meeting in
    rw (pushed, got) goal)
    (λ (differs : d ≡ at → ⊥).
    let less' : d < at = omega (arith, within, differs) in
    rw pushed (some-left old (first ∷ []) d (IsFirstMeeting (map (map_range plan) other.map)) (slice_get old d) refl (before d other less' there))) (cases_eq d at)

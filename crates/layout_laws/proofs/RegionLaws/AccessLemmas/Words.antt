use Rattle.std.proofs.Common.{◌≡◌, ℕ, suc, ◌<◌, inl, inr, ⊎_elim, List, [], ◌∷◌, length, true, false, Some, slice_get, refl, sym, ap, ◌∙◌, arith}
use Rattle.std.specs.List.{All, Any, Contains}
use Rattle.std.specs.Option.{IsSomeAnd, option_and_then}
use Rattle.std.proofs.lemmas.Bool.{cases_eq}
use Rattle.std.proofs.lemmas.List.{length-map}
use Rattle.std.proofs.lemmas.List.Elements.{All-nil, All-cons}
use Rattle.std.proofs.lemmas.Option.{slice_get_within, slice_get-get_or, slice_get-map, get_or_from_slice_get}
use Rattle.sdf_plan.specs.declared.plan.Plan.{Plan}
use Rattle.sdf_plan.specs.declared.plan.Domain.{Domain}
use Rattle.sdf_plan.specs.declared.plan.Map.{Map}
use Rattle.sdf_plan.specs.declared.plan.Channel.{Channel}
use Rattle.sdf_check.specs.Names.{domain_names, domain_named}
use Rattle.sdf_check.specs.Rules.{count_of}
use Rattle.sdf_check.specs.ClassRules.{SomeOf, the_domain, Joins, AreJoined, HasInterrupt, Grants, IsGranted, IsStranger, HasStranger}
use Rattle.sdf_check.proofs.SoughtLemmas.{here-some, some-here, none-here}
use Rattle.sdf_check.proofs.SweepLemmas.{some-inj}
use Rattle.sdf_check.proofs.LoopLemmas.{held}
use Rattle.layout_laws.proofs.Lists.{option_cases, there_is}
use Rattle.layout_laws.proofs.Found.{found-at}
use Rattle.layout_laws.specs.RegionLaws.Access.Access.{Maps, Reads, Writes, HoldsOf, JoinsBoth, IsInterrupted}
use Rattle.layout_laws.proofs.RegionLaws.AccessLemmas.Decide.{text, some-of}

pub any-at : {X : Type 0} (P : X → Type 0) (xs : List X) (k : ℕ) (x : X) → slice_get xs k ≡ Some x → P x → Any P xs
any-at P xs k x at p = (k, x, slice_get_within xs k x at, get_or_from_slice_get xs k x x at, p)

pub contains-at : {X : Type 0} (xs : List X) (k : ℕ) (x : X) → slice_get xs k ≡ Some x → Contains xs x
contains-at xs k x at = (k, slice_get_within xs k x at, get_or_from_slice_get xs k x x at)

pub all-each : {X : Type 0} (P : X → Type 0) (xs : List X) → ((k : ℕ) (x : X) → slice_get xs k ≡ Some x → P x) → All P xs
all-each P [] h = All-nil P
all-each P (x ∷ xs) h = All-cons P x xs (h 0 x refl) (all-each P xs (λ k. h (suc k)))

-- some of the elements, in the words of the rules and in those of the laws
some-any : {X : Type 0} (P Q : X → Type 0) (xs : List X) → ((x : X) → P x → Q x) → SomeOf P xs → Any Q xs
some-any P Q xs f s = let h = held (slice_get xs s.0) P s.1 in any-at Q xs s.0 h.0 h.1 (f h.0 h.2)

any-some : {X : Type 0} (P Q : X → Type 0) (xs : List X) → ((x : X) → P x → Q x) → Any P xs → SomeOf Q xs
any-some P Q xs f a = (a.0, here-some (slice_get xs a.0) a.1 Q (slice_get-get_or xs a.0 a.1 a.2 ∙ ap Some a.3) (f a.1 a.4))

-- a letter that is counted stands there
pub letter-there : (letter : ℕ) (perms : List ℕ) → 0 < count_of letter perms → (k : ℕ) × (slice_get perms k ≡ Some letter)
letter-there letter [] more = let no : ⊥ = omega (arith, more) in absurd no
letter-there letter (x ∷ xs) more =
    ⊎_elim (λ (same : x ≡ letter). (0, ap Some same))
    (λ (ne : x ≡ letter → ⊥). let rest : 0 < count_of letter xs = grind (arith, more, ne) in let there = letter-there letter xs rest in (suc there.0, there.1)) (cases_eq x letter)

has-letter : (letter : ℕ) (perms : List ℕ) → 0 < count_of letter perms → Contains perms letter
has-letter letter perms more = let there = letter-there letter perms more in contains-at perms there.0 letter there.1

-- what holds of the domain that a name finds
pub named-domain : (plan : Plan) (name : List ℕ) (P Q : Domain → Type 0) → ((x : Domain) → P x → Q x) → IsSomeAnd (the_domain plan name) P → HoldsOf plan name Q
named-domain plan name P Q to h = elim (option_cases (domain_named plan name)) [
  | inl none ↦ absurd (none-here (the_domain plan name) P (ap (option_and_then (λ d. slice_get plan.protection_domain d)) none) h)
  | inr some ↦
      let f = found-at name (domain_names plan) some.0 some.1 in
      let within : some.0 < length plan.protection_domain = rw (← length-map plan.protection_domain (λ (x : Domain). x.name)) f.0 in
      let there = there_is plan.protection_domain some.0 within in
      let the : the_domain plan name ≡ Some there.0 = ap (option_and_then (λ d. slice_get plan.protection_domain d)) some.1 ∙ there.1 in
      let named : Some there.0.name ≡ Some name = sym (slice_get-map (λ (x : Domain). x.name) plan.protection_domain some.0 ∙ rw there.1 refl) ∙ f.1 in
      any-at (λ (x : Domain). (x.name ≡ name) × Q x) plan.protection_domain some.0 there.0 there.1 (some-inj named, to there.0 (some-here (the_domain plan name) there.0 P the h))
]

-- a right that is granted
pub reads : (plan : Plan) (name region : List ℕ) → IsGranted plan (name, region, false) → HoldsOf plan name (Reads region)
reads plan name region h =
    named-domain plan name (λ (x : Domain). SomeOf (Grants region false) x.map) (Reads region)
    (λ (x : Domain) s. some-any (Grants region false) (λ (m : Map). (m.mr ≡ region) × Contains m.perms 114) x.map (λ (m : Map) g. (g.0, has-letter 114 m.perms g.1.0)) s) h

pub writes : (plan : Plan) (name region : List ℕ) → IsGranted plan (name, region, true) → HoldsOf plan name (Writes region)
writes plan name region h =
    named-domain plan name (λ (x : Domain). SomeOf (Grants region true) x.map) (Writes region)
    (λ (x : Domain) s. some-any (Grants region true) (λ (m : Map). (m.mr ≡ region) × Contains m.perms 114 × Contains m.perms 119) x.map
    (λ (m : Map) g. (g.0, has-letter 114 m.perms g.1.0, has-letter 119 m.perms g.1.1)) s) h

pub interrupted : (plan : Plan) (name : List ℕ) → HasInterrupt plan name → IsInterrupted plan name
interrupted plan name h = named-domain plan name (λ (x : Domain). 0 < length x.irq) (λ (x : Domain). 0 < length x.irq) (λ x p. p) h

-- domains that are joined
joins : (a b : List ℕ) (channel : Channel) → Joins (a, b) channel → JoinsBoth a b channel
joins a b channel h =
    let first = held (slice_get channel.end 0) _ h in
    let second = held (slice_get channel.end 1) _ first.2 in
    ⊎_elim (λ (s : (first.0.pd ≡ a) × (second.0.pd ≡ b)). inl ((first.0, first.1, s.0), (second.0, second.1, s.1)))
    (λ (s : (first.0.pd ≡ b) × (second.0.pd ≡ a)). inr ((first.0, first.1, s.0), (second.0, second.1, s.1))) second.2

pub joined : (plan : Plan) (a b : List ℕ) → AreJoined plan (a, b) → Any (JoinsBoth a b) plan.channel
joined plan a b h = some-any (Joins (a, b)) (JoinsBoth a b) plan.channel (joins a b) h

-- where there is no stranger, each domain that maps a region is allowed to
pub none-else : (plan : Plan) (region : List ℕ) (allowed : List (List ℕ)) → (HasStranger plan region allowed → ⊥)
    → All (λ (domain : Domain). Maps region domain → Contains allowed domain.name) plan.protection_domain
none-else plan region allowed fine =
    all-each (λ (domain : Domain). Maps region domain → Contains allowed domain.name) plan.protection_domain (λ k (domain : Domain) at maps.
    ⊎_elim (λ (s : SomeOf (λ name. name ≡ domain.name) allowed). let h = held (slice_get allowed s.0) (λ name. name ≡ domain.name) s.1 in contains-at allowed s.0 domain.name (h.1 ∙ ap Some h.2))
    (λ (no : SomeOf (λ name. name ≡ domain.name) allowed → ⊥).
    absurd (fine (
      k,
      here-some (slice_get plan.protection_domain k) domain (IsStranger region allowed) at
          (no, any-some (λ (m : Map). m.mr ≡ region) (λ (m : Map). m.mr ≡ region) domain.map (λ m e. e) maps),
    )))
    (some-of (λ name. name ≡ domain.name) (λ name. text name domain.name) allowed))

use Rattle.std.proofs.Common.{◌≡◌, ◌↔◌, ℕ, ◌<◌, ◌≤◌, List, length, map, Option, Some, None, refl, sym, ◌∙◌, ap, subst, arith, inl, inr, ◌⊎◌, ⊎_elim}
use Rattle.std.specs.List.{slice_get}
use Rattle.std.specs.Option.{IsSomeAnd}
use Rattle.std.proofs.lemmas.Bool.{cases_lt, cases_eq}
use Rattle.std.proofs.lemmas.Option.{slice_get_within, slice_get-map}
use Rattle.std.proofs.lemmas.List.{length-map}
use Rattle.sdf_plan.specs.declared.plan.Plan.{Plan}
use Rattle.sdf_plan.specs.declared.plan.Irq.{Irq}
use Rattle.sdf_plan.specs.declared.plan.Domain.{Domain}
use Rattle.sdf_check.specs.Names.{StandsBefore}
use Rattle.sdf_check.specs.Rules.{Range, MeetsEarlier, InterruptHas}
use Rattle.sdf_check.specs.Meetings.{IsFirstMeeting}
use Rattle.sdf_check.proofs.SweepLemmas.{some-inj, none-is-some}

-- a range that meets an earlier one is not before the first that does
pub reach-complete : (ranges : List (Option Range)) (first : Option ℕ) (at : ℕ) → IsFirstMeeting ranges first → MeetsEarlier ranges at
    → IsSomeAnd first (λ f. f ≤ at)
reach-complete ranges None at is m = is at m
reach-complete ranges (Some f) at is m = ⊎_elim (λ (h : at < f). absurd (is.1 at h m)) (λ (h : f ≤ at). h) (cases_lt at f)

-- from the first on, it's that one or comes after it
pub reach-sound : (ranges : List (Option Range)) (first : Option ℕ) (at : ℕ) → IsFirstMeeting ranges first → IsSomeAnd first (λ f. f ≤ at)
    → MeetsEarlier ranges at ⊎ ((f : ℕ) × (f < at) × MeetsEarlier ranges f)
reach-sound ranges None at is h = absurd h
reach-sound ranges (Some f) at is h =
    ⊎_elim (λ (same : f ≡ at). inl (subst (MeetsEarlier ranges) same is.0))
    (λ (other : f ≡ at → ⊥). let less : f < at = omega (arith, h, other) in inr (f, less, is.0)) (cases_eq f at)

-- what an option is known to hold
pub some-here : {X : Type 0} (o : Option X) (x : X) (P : X → Type 0) → o ≡ Some x → IsSomeAnd o P → P x
some-here o x P is h = subst (λ p. IsSomeAnd p P) is h

pub here-some : {X : Type 0} (o : Option X) (x : X) (P : X → Type 0) → o ≡ Some x → P x → IsSomeAnd o P
here-some o x P is h = subst (λ p. IsSomeAnd p P) (sym is) h

pub none-here : {X : Type 0} (o : Option X) (P : X → Type 0) → o ≡ None → IsSomeAnd o P → ⊥
none-here o P is h = subst (λ p. IsSomeAnd p P) is h

-- the id at a place
pub id-at : (irqs : List Irq) (k : ℕ) (irq : Irq) → slice_get irqs k ≡ Some irq → slice_get (map (λ (i : Irq). i.id) irqs) k ≡ Some irq.id
id-at irqs k irq is = slice_get-map (λ (i : Irq). i.id) irqs k ∙ rw is refl

pub id-not-at : (irqs : List Irq) (k id : ℕ) (irq : Irq) → slice_get irqs k ≡ Some irq → (irq.id ≡ id → ⊥) → slice_get (map (λ (i : Irq). i.id) irqs) k ≡ Some id → ⊥
id-not-at irqs k id irq is differs got = differs (some-inj (sym (id-at irqs k irq is) ∙ got))

-- no id past the end
pub id-within : (irqs : List Irq) (k id : ℕ) → slice_get (map (λ (i : Irq). i.id) irqs) k ≡ Some id → k < length irqs
id-within irqs k id is = let less : k < length (map (λ (i : Irq). i.id) irqs) = slice_get_within _ k id is in rw (← length-map irqs (λ (i : Irq). i.id)) less

id-of : (irqs : List Irq) (k id : ℕ) (o : Option Irq) → slice_get irqs k ≡ o → slice_get (map (λ (i : Irq). i.id) irqs) k ≡ Some id → IsSomeAnd o (λ irq. irq.id ≡ id)
id-of irqs k id None is got = none-is-some (sym (slice_get-map (λ (i : Irq). i.id) irqs k ∙ rw is refl) ∙ got)
id-of irqs k id (Some irq) is got = some-inj (sym (id-at irqs k irq is) ∙ got)

of-id : (irqs : List Irq) (k id : ℕ) (o : Option Irq) → slice_get irqs k ≡ o → IsSomeAnd o (λ irq. irq.id ≡ id) → slice_get (map (λ (i : Irq). i.id) irqs) k ≡ Some id
of-id irqs k id None is h = absurd h
of-id irqs k id (Some irq) is h = id-at irqs k irq is ∙ ap Some h

-- an interrupt of a known domain
pub interrupt-iff : (plan : Plan) (d id : ℕ) (domain : Domain) → slice_get plan.protection_domain d ≡ Some domain
    → StandsBefore id (map (λ (i : Irq). i.id) domain.irq) (length domain.irq) ↔ InterruptHas plan d id
interrupt-iff plan d id domain is = (
  λ s. (s.0, here-some (slice_get plan.protection_domain d) domain (λ x. IsSomeAnd (slice_get x.irq s.0) (λ irq. irq.id ≡ id)) is (id-of domain.irq s.0 id (slice_get domain.irq s.0) refl s.2)),
  λ h.
      let there : IsSomeAnd (slice_get domain.irq h.0) (λ irq. irq.id ≡ id) = some-here (slice_get plan.protection_domain d) domain (λ x. IsSomeAnd (slice_get x.irq h.0) (λ irq. irq.id ≡ id)) is h.1 in
      let got : slice_get (map (λ (i : Irq). i.id) domain.irq) h.0 ≡ Some id = of-id domain.irq h.0 id (slice_get domain.irq h.0) refl there in
      (h.0, id-within domain.irq h.0 id got, got),
)

pub no-interrupt : (plan : Plan) (d id : ℕ) → slice_get plan.protection_domain d ≡ None → InterruptHas plan d id → ⊥
no-interrupt plan d id is h = none-here (slice_get plan.protection_domain d) _ is h.1

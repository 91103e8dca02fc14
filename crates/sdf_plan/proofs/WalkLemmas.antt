use Rattle.std.proofs.Common.{◌≡◌, ℕ, zero, suc, ◌+◌, ◌-◌, ◌<◌, List, [], ◌∷◌, ◌++◌, length, map, drop, get_or, refl, ◌∙◌, ap, subst, arith, add-one, sub-one, append_assoc, drop-cons}
use Rattle.sdf_plan.specs.Places.{places_from, domain_places, channel_places}
use Rattle.sdf_plan.specs.declared.place.Place.{Place}
use Rattle.sdf_plan.specs.declared.place.Place.TheVariants as At
use Rattle.sdf_plan.specs.declared.plan.Domain.{Domain}
use Rattle.sdf_plan.specs.declared.plan.Channel.{Channel}
use Rattle.sdf_plan.specs.Elements.{domain_parts, channel_parts}

-- the first of so many numbered elements, and the others
pub places_from-first : (place : ℕ → Place) (first left : ℕ) → 0 < left → places_from place first left ≡ place first ∷ places_from place (first + 1) (left - 1)
places_from-first place first zero more = let no : ⊥ = omega (arith, more) in absurd no
places_from-first place first (suc left) more = rw sub-one refl

-- a loop over numbered elements pushes the first of those that are left
pub members-step : (place : ℕ → Place) (old new all : List Place) (at count : ℕ) → at < count → new ≡ old ++ place at ∷ []
    → old ++ places_from place at (count - at) ≡ all → new ++ places_from place (at + 1) (count - (at + 1)) ≡ all
members-step place old new all at count less pushed was =
    let some : 0 < count - at = omega (arith, less) in
    let left : count - (at + 1) ≡ count - at - 1 = omega (arith, less) in
    rw (pushed, left, append_assoc old (place at ∷ []) _, ← places_from-first place at (count - at) some) was

-- what is pushed one after another is what stands in one list
parts-joined : (old : List Place) (head : Place) (maps irqs rest : List Place)
    → (((old ++ head ∷ []) ++ maps) ++ irqs) ++ rest ≡ old ++ (((head ∷ maps) ++ irqs) ++ rest)
parts-joined [] head maps irqs rest = refl
parts-joined (p ∷ old) head maps irqs rest = ap (λ ps. p ∷ ps) (parts-joined old head maps irqs rest)

ends-joined : (old : List Place) (head : Place) (ends rest : List Place) → ((old ++ head ∷ []) ++ ends) ++ rest ≡ old ++ ((head ∷ ends) ++ rest)
ends-joined [] head ends rest = refl
ends-joined (p ∷ old) head ends rest = ap (λ ps. p ∷ ps) (ends-joined old head ends rest)

-- a loop over domains pushes the places of the first of those that are left
pub domains-step : (old first second new all : List Place) (domains : List Domain) (domain : Domain) (at number maps irqs : ℕ) → at < length domains
    → domain ≡ get_or domains at domain → number ≡ at → maps ≡ length domain.map → irqs ≡ length domain.irq
    → first ≡ old ++ At.Domain number ∷ []
    → second ≡ first ++ places_from (λ m. At.Map number m) 0 maps
    → new ≡ second ++ places_from (λ i. At.Irq number i) 0 irqs
    → old ++ domain_places at (map domain_parts (drop at domains)) ≡ all
    → new ++ domain_places (at + 1) (map domain_parts (drop (at + 1) domains)) ≡ all
domains-step old first second new all domains domain at number maps irqs less is same em ei one two three was =
    let here : drop at domains ≡ domain ∷ drop (at + 1) domains = rw (add-one, drop-cons domains at domain, ← is) refl in
    let was' : old ++ domain_places at (map domain_parts (domain ∷ drop (at + 1) domains)) ≡ all =
    subst (λ (ds : List Domain). old ++ domain_places at (map domain_parts ds) ≡ all) here was in
    rw (three, two, one, same, em, ei) (parts-joined old _ _ _ _ ∙ was')

pub channels-step : (old first new all : List Place) (channels : List Channel) (channel : Channel) (at number ends : ℕ) → at < length channels
    → channel ≡ get_or channels at channel → number ≡ at → ends ≡ length channel.end → first ≡ old ++ At.Channel number ∷ []
    → new ≡ first ++ places_from (λ e. At.End number e) 0 ends
    → old ++ channel_places at (map channel_parts (drop at channels)) ≡ all
    → new ++ channel_places (at + 1) (map channel_parts (drop (at + 1) channels)) ≡ all
channels-step old first new all channels channel at number ends less is same ee one two was =
    let here : drop at channels ≡ channel ∷ drop (at + 1) channels = rw (add-one, drop-cons channels at channel, ← is) refl in
    let was' : old ++ channel_places at (map channel_parts (channel ∷ drop (at + 1) channels)) ≡ all =
    subst (λ (cs : List Channel). old ++ channel_places at (map channel_parts cs) ≡ all) here was in
    rw (two, one, same, ee) (ends-joined old _ _ _ ∙ was')

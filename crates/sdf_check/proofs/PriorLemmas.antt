use Rattle.std.proofs.Common.{◌≡◌, ℕ, zero, suc, ◌+◌, ◌-◌, ◌<◌, ◌≤◌, List, [], ◌∷◌, ◌++◌, length, Option, Some, None, sym, ◌∙◌, ap, subst, arith, add-zero, zero-add, ⊎_elim}
use Rattle.std.specs.List.{slice_get}
use Rattle.std.proofs.lemmas.Bool.{cases_lt}
use Rattle.std.proofs.lemmas.Option.{slice_get_within}
use Rattle.sdf_plan.specs.Places.{Outline, walk, places_from, domain_places, channel_places, class_places, IsKept, IsFirstBroken}
use Rattle.sdf_plan.specs.declared.place.Place.{Place}
use Rattle.sdf_plan.specs.declared.place.Place.TheVariants as At
use Rattle.sdf_check.specs.Priors.{IsPrior, OrPrior}
use Rattle.sdf_check.proofs.ListLemmas.{get-left, get-right, get-either}
use Rattle.sdf_check.proofs.SweepLemmas.{some-inj, none-is-some}

-- what is prior to an element of a list stands before it there
abbrev pub Chained : List Place → Type 0
Chained xs = (k : ℕ) (p q : Place) → slice_get xs k ≡ Some p → IsPrior q p → (j : ℕ) × (j < k) × (slice_get xs j ≡ Some q)

chained-none : Chained []
chained-none k p q is prior = absurd (none-is-some is)

chained-join : (xs ys : List Place) → Chained xs → Chained ys → Chained (xs ++ ys)
chained-join xs ys cx cy k p q is prior =
    ⊎_elim (λ (h : slice_get xs k ≡ Some p). let c = cx k p q h prior in (c.0, c.1, get-left xs ys c.0 q c.2))
    (λ (h : (length xs ≤ k) × (slice_get ys (k - length xs) ≡ Some p)).
    let c = cy (k - length xs) p q h.1 prior in
    let less : length xs + c.0 < k = omega (arith, c.1, h.0) in (length xs + c.0, less, get-right xs ys c.0 q c.2)) (get-either xs ys k p is)

chained-one : (x : Place) → ((q : Place) → IsPrior q x → ⊥) → Chained (x ∷ [])
chained-one x alone zero p q is prior = absurd (alone q (subst (IsPrior q) (sym (some-inj is)) prior))
chained-one x alone (suc k) p q is prior = absurd (none-is-some is)

-- the elements of numbered places
get-from : (f : ℕ → Place) (first count k : ℕ) (p : Place) → slice_get (places_from f first count) k ≡ Some p → (k < count) × (p ≡ f (first + k))
get-from f first zero k p is = absurd (none-is-some is)
get-from f first (suc count) zero p is = let more : zero < suc count = omega arith in (more, sym (some-inj is) ∙ ap f (sym (add-zero first)))
get-from f first (suc count) (suc k) p is =
    let g = get-from f (first + 1) count k p is in
    let more : suc k < suc count = omega (arith, g.0) in
    let same : first + 1 + k ≡ first + suc k = omega arith in (more, g.1 ∙ ap f same)

from-get : (f : ℕ → Place) (first count k : ℕ) → k < count → slice_get (places_from f first count) k ≡ Some (f (first + k))
from-get f first zero k less = let no : ⊥ = omega (arith, less) in absurd no
from-get f first (suc count) zero less = ap (λ n. Some (f n)) (sym (add-zero first))
from-get f first (suc count) (suc k) less =
    let less' : k < count = omega (arith, less) in
    let same : first + 1 + k ≡ first + suc k = omega arith in from-get f (first + 1) count k less' ∙ ap (λ n. Some (f n)) same

chained-alone : (f : ℕ → Place) (first count : ℕ) → ((n : ℕ) (q : Place) → IsPrior q (f n) → ⊥) → Chained (places_from f first count)
chained-alone f first count alone k p q is prior =
    let g = get-from f first count k p is in absurd (alone (first + k) q (subst (IsPrior q) g.1 prior))

chained-numbers : (f : ℕ → Place) (count : ℕ) → ((n : ℕ) (q : Place) → IsPrior q (f n) → (a : ℕ) × (a < n) × (q ≡ f a)) → Chained (places_from f 0 count)
chained-numbers f count before k p q is prior =
    let g = get-from f 0 count k p is in
    let b = before (0 + k) q (subst (IsPrior q) g.1 prior) in
    let less : b.0 < k = omega (arith, b.1) in
    let within : b.0 < count = omega (arith, less, g.0) in
    (b.0, less, from-get f 0 count b.0 within ∙ ap (λ n. Some (f n)) (zero-add b.0) ∙ ap Some (sym b.2))

chained-domains : (d : ℕ) (domains : List (ℕ × ℕ)) → Chained (domain_places d domains)
chained-domains d [] = chained-none
chained-domains d (parts ∷ rest) =
    chained-join ((At.Domain d ∷ places_from (λ m. At.Map d m) 0 parts.0) ++ places_from (λ i. At.Irq d i) 0 parts.1) (domain_places (d + 1) rest)
    (chained-join (At.Domain d ∷ places_from (λ m. At.Map d m) 0 parts.0) (places_from (λ i. At.Irq d i) 0 parts.1)
    (chained-join (At.Domain d ∷ []) (places_from (λ m. At.Map d m) 0 parts.0) (chained-one (At.Domain d) (λ q h. h))
    (chained-numbers (λ m. At.Map d m) parts.0 (λ n q h. h)))
    (chained-alone (λ i. At.Irq d i) 0 parts.1 (λ n q h. h)))
    (chained-domains (d + 1) rest)

chained-channels : (c : ℕ) (channels : List ℕ) → Chained (channel_places c channels)
chained-channels c [] = chained-none
chained-channels c (ends ∷ rest) =
    chained-join (At.Channel c ∷ places_from (λ e. At.End c e) 0 ends) (channel_places (c + 1) rest)
    (chained-join (At.Channel c ∷ []) (places_from (λ e. At.End c e) 0 ends) (chained-one (At.Channel c) (λ q h. h))
    (chained-alone (λ e. At.End c e) 0 ends (λ n q h. h)))
    (chained-channels (c + 1) rest)

chained-class : (class : Place) (client : ℕ → Place) (clients : Option ℕ) → ((q : Place) → IsPrior q class → ⊥) → ((n : ℕ) (q : Place) → IsPrior q (client n) → ⊥)
    → Chained (class_places class client clients)
chained-class class client None alone apart = chained-none
chained-class class client (Some count) alone apart =
    chained-join (class ∷ []) (places_from client 0 count) (chained-one class alone) (chained-alone client 0 count apart)

abbrev to_regions : Outline → List Place
to_regions o = At.System ∷ places_from (λ r. At.Region r) 0 o.regions

abbrev to_domains : Outline → List Place
to_domains o = to_regions o ++ domain_places 0 o.domains

abbrev to_channels : Outline → List Place
to_channels o = to_domains o ++ channel_places 0 o.channels

abbrev to_net : Outline → List Place
to_net o = to_channels o ++ class_places At.Net (λ c. At.NetClient c) o.net

abbrev to_serial : Outline → List Place
to_serial o = to_net o ++ class_places At.Serial (λ c. At.SerialClient c) o.serial

-- in the walk, what is prior to an element stands before it
pub chained-walk : (o : Outline) → Chained (walk o)
chained-walk o =
    let regions : Chained (to_regions o) = chained-join (At.System ∷ []) (places_from (λ r. At.Region r) 0 o.regions) (chained-one At.System (λ q h. h)) (chained-numbers (λ r. At.Region r) o.regions (λ n q h. h)) in
    let domains : Chained (to_domains o) = chained-join (to_regions o) (domain_places 0 o.domains) regions (chained-domains 0 o.domains) in
    let channels : Chained (to_channels o) = chained-join (to_domains o) (channel_places 0 o.channels) domains (chained-channels 0 o.channels) in
    let net : Chained (to_net o) = chained-join (to_channels o) (class_places At.Net (λ c. At.NetClient c) o.net) channels (chained-class At.Net (λ c. At.NetClient c) o.net (λ q h. h) (λ n q h. h)) in
    let serial : Chained (to_serial o) = chained-join (to_net o) (class_places At.Serial (λ c. At.SerialClient c) o.serial) net (chained-class At.Serial (λ c. At.SerialClient c) o.serial (λ q h. h) (λ n q h. h)) in
    chained-join (to_serial o) (class_places At.Blk (λ c. At.BlkClient c) o.blk) serial (chained-class At.Blk (λ c. At.BlkClient c) o.blk (λ q h. h) (λ n q h. h))

-- the first element at which a test answers yes, where a yes speaks of it or of one prior to it
pub first-here : (breaks : Place → Type 0) (places walked : List Place) (at : ℕ) (place : Place) → places ≡ walked → Chained walked
    → slice_get places at ≡ Some place → ((k : ℕ) (p : Place) → k < at → slice_get places k ≡ Some p → breaks p → ⊥) → OrPrior breaks place
    → IsFirstBroken breaks walked place
first-here breaks places walked at place same chained is before sound =
    let there : slice_get walked at ≡ Some place = subst (λ (xs : List Place). slice_get xs at ≡ Some place) same is in
    let none : (k : ℕ) (p : Place) → k < at → slice_get walked k ≡ Some p → breaks p → ⊥ =
    subst (λ (xs : List Place). (k : ℕ) (p : Place) → k < at → slice_get xs k ≡ Some p → breaks p → ⊥) same before in
    record {
      at = at;
      there = there;
      here = ⊎_elim (λ (h : breaks place). h) (λ (h : (prior : Place) × IsPrior prior place × breaks prior).
          let b = chained at place h.0 there h.1 in absurd (none b.0 h.0 b.1 b.2 h.2)) sound;
      before = none;
    }

-- no element is left
pub none-here : (breaks : Place → Type 0) (places walked : List Place) (at : ℕ) → places ≡ walked → length places ≤ at
    → ((k : ℕ) (p : Place) → k < at → slice_get places k ≡ Some p → breaks p → ⊥) → IsKept breaks walked
none-here breaks places walked at same past before =
    subst (IsKept breaks) same (λ k p is. let within : k < length places = slice_get_within places k p is in before k p (omega (arith, within, past)) is)

-- one more element is no break
pub one-more : (breaks : Place → Type 0) (places : List Place) (at : ℕ) (place : Place) → slice_get places at ≡ Some place → (breaks place → ⊥)
    → ((k : ℕ) (p : Place) → k < at → slice_get places k ≡ Some p → breaks p → ⊥) → (k : ℕ) (p : Place) → k < at + 1 → slice_get places k ≡ Some p → breaks p → ⊥
one-more breaks places at place is fine before k p less there bad =
    ⊎_elim (λ (h : k < at). before k p h there bad) (λ (h : at ≤ k).
    let same : k ≡ at = omega (arith, less, h) in
    let eq : p ≡ place = some-inj (sym there ∙ ap (slice_get places) same ∙ is) in fine (subst breaks eq bad)) (cases_lt k at)

use Rattle.std.proofs.Common.{◌≡◌, ℕ, zero, suc, ◌+◌, ◌-◌, ◌<◌, ◌≤◌, ◌⊎◌, ⊎_elim, List, [], ◌∷◌, ◌++◌, length, Option, Some, None, slice_get, slice_index, refl, ap, sym, ◌∙◌, subst, arith, add-zero}
use Rattle.std.specs.Option.{option_map, option_map_or}
use Rattle.std.proofs.lemmas.Bool.{cases_lt, cases_eq}
use Rattle.std.proofs.lemmas.Option.{slice_get_within, slice_get-get_or}
use Rattle.sdf_plan.specs.declared.plan.Plan.{Plan}
use Rattle.sdf_plan.specs.declared.plan.Region.{Region}
use Rattle.sdf_check.specs.Names.{region_names, region_named}
use Rattle.sdf_check.specs.Rules.{Range, Meets}
use Rattle.sdf_check.specs.ClassRules.{IsSmaller, class_regions}
use Rattle.sdf_check.specs.Valid.{Valid}
use Rattle.sdf_check.proofs.ListLemmas.{get-either}
use Rattle.sdf_check.proofs.SweepLemmas.{some-inj, none-is-some}
use Rattle.region_layout.specs.Bases.{bases_of}
use Rattle.region_layout.specs.Rows.{each_client}
use Rattle.region_layout.proofs.DisjointLemmas.{are_disjoint}
use Rattle.region_layout.proofs.ValidLemmas.{small_numbers, given_apart}
use Rattle.layout_laws.proofs.Found.{found-at, large-region}
use Rattle.layout_laws.proofs.Pools.{all-based}
use Rattle.layout_laws.proofs.Once.{regions_once}

-- the base of a region
abbrev pub base : Plan → ℕ → ℕ
base plan r = slice_index (bases_of plan.memory_region) r

-- a range lies in the region that a key names
abbrev pub Held : Plan → ℕ → Range → Type 0
Held plan key range =
    (name : List ℕ) × (r : ℕ) × (region : Region) × (slice_get (class_regions plan) key ≡ Some name) × (region_named plan name ≡ Some r)
    × (slice_get plan.memory_region r ≡ Some region) × (base plan r ≤ range.0) × (range.1 ≤ base plan r + region.size)

base-there : (plan : Plan) (r : ℕ) (region : Region) → slice_get plan.memory_region r ≡ Some region → slice_get (bases_of plan.memory_region) r ≡ Some (base plan r)
base-there plan r region there =
    let within : r < length plan.memory_region = slice_get_within plan.memory_region r region there in
    let less : r < length (bases_of plan.memory_region) = rw (all-based plan.memory_region) within in
    slice_get-get_or (bases_of plan.memory_region) r 0 less

parted-meet : (at size other more : ℕ) (a b : Range) → (at + size ≤ other) ⊎ (other + more ≤ at) → at ≤ a.0 → a.1 ≤ at + size → other ≤ b.0 → b.1 ≤ other + more → Meets a b → ⊥
parted-meet at size other more a b parted alow ahigh blow bhigh m =
    ⊎_elim (λ (h : at + size ≤ other). let no : ⊥ = omega (arith, h, alow, ahigh, blow, bhigh, m.1, m.2, m.3, m.4) in no)
    (λ (h : other + more ≤ at). let no : ⊥ = omega (arith, h, alow, ahigh, blow, bhigh, m.1, m.2, m.3, m.4) in no) parted

swap-meet : (a b : Range) → Meets a b → Meets b a
swap-meet a b m = (m.0, m.3, m.4, m.1, m.2)

-- ranges of two keys
pub held-apart : (plan : Plan) (k j : ℕ) (a b : Range) → Valid plan → k < j → Held plan k a → Held plan j b → Meets a b → ⊥
held-apart plan k j a b valid less one other m =
    let disjoint = are_disjoint plan.memory_region (small_numbers plan valid).regions (given_apart plan valid) in
    let first = base-there plan one.1 one.2 one.5 in
    let second = base-there plan other.1 other.2 other.5 in
    ⊎_elim (λ (same : one.1 ≡ other.1).
    let mine : slice_get (region_names plan) other.1 ≡ Some one.0 = subst (λ n. slice_get (region_names plan) n ≡ Some one.0) same (found-at one.0 (region_names plan) one.1 one.4).1 in
    let yours : slice_get (region_names plan) other.1 ≡ Some other.0 = (found-at other.0 (region_names plan) other.1 other.4).1 in
    let name : one.0 ≡ other.0 = some-inj (sym mine ∙ yours) in
    regions_once plan valid j other.0 other.3 (k, less, one.3 ∙ ap Some name))
    (λ (differs : one.1 ≡ other.1 → ⊥).
    ⊎_elim (λ (before : one.1 < other.1).
    parted-meet (base plan one.1) one.2.size (base plan other.1) other.2.size a b (disjoint one.1 other.1 one.2 other.2 (base plan one.1) (base plan other.1) before one.5 other.5 first second)
    one.6 one.7 other.6 other.7 m)
    (λ (rest : other.1 ≤ one.1).
    let after : other.1 < one.1 = omega (arith, rest, differs) in
    parted-meet (base plan other.1) other.2.size (base plan one.1) one.2.size b a (disjoint other.1 one.1 other.2 one.2 (base plan other.1) (base plan one.1) after other.5 one.5 second first)
    other.6 other.7 one.6 one.7 (swap-meet a b m)) (cases_lt one.1 other.1)) (cases_eq one.1 other.1)

-- each range of some rows lies in the region of a key from one number up to another, of which something holds
abbrev pub Within : {T : Type 0} → Plan → (T → Option Range) → (ℕ → Type 0) → ℕ → ℕ → List T → Type 0
Within {T} plan range Q low high rows =
    (i : ℕ) (x : T) (a : Range) → slice_get rows i ≡ Some x → range x ≡ Some a → (key : ℕ) × (low ≤ key) × (key < high) × Q key × Held plan key a

-- no two ranges of some rows meet
abbrev pub Apart : {T : Type 0} → (T → Option Range) → List T → Type 0
Apart {T} range rows =
    (i j : ℕ) (x y : T) (a b : Range) → i < j → slice_get rows i ≡ Some x → slice_get rows j ≡ Some y → range x ≡ Some a → range y ≡ Some b → Meets a b → ⊥

abbrev pub Spread : {T : Type 0} → Plan → (T → Option Range) → (ℕ → Type 0) → ℕ → ℕ → List T → Type 0
Spread plan range Q low high rows = Within plan range Q low high rows × Apart range rows

pub spread-none : {T : Type 0} (plan : Plan) (range : T → Option Range) (Q : ℕ → Type 0) (low high : ℕ) → Spread plan range Q low high []
spread-none plan range Q low high = (λ i x a there is. absurd (none-is-some there), λ i j x y a b less one other f g m. absurd (none-is-some one))

pub spread-both : {T : Type 0} (plan : Plan) (range : T → Option Range) (Q : ℕ → Type 0) (low mid high : ℕ) (xs ys : List T) → Valid plan → low ≤ mid → mid ≤ high
    → Spread plan range Q low mid xs → Spread plan range Q mid high ys → Spread plan range Q low high (xs ++ ys)
spread-both {T} plan range Q low mid high xs ys valid up down first second = (
  λ i x a there is.
      ⊎_elim (λ (h : slice_get xs i ≡ Some x).
      let w = first.0 i x a h is in let most : w.0 < high = omega (arith, w.2, down) in (w.0, w.1, most, w.3, w.4))
      (λ (h : (length xs ≤ i) × (slice_get ys (i - length xs) ≡ Some x)).
      let w = second.0 (i - length xs) x a h.1 is in let least : low ≤ w.0 = omega (arith, w.1, up) in (w.0, least, w.2, w.3, w.4)) (get-either xs ys i x there),
  λ i j x y a b less one other f g m.
      ⊎_elim (λ (h : slice_get xs i ≡ Some x).
      ⊎_elim (λ (l : slice_get xs j ≡ Some y). first.1 i j x y a b less h l f g m)
      (λ (r : (length xs ≤ j) × (slice_get ys (j - length xs) ≡ Some y)).
      let v = first.0 i x a h f in
      let w = second.0 (j - length xs) y b r.1 g in
      let keys : v.0 < w.0 = omega (arith, v.2, w.1) in held-apart plan v.0 w.0 a b valid keys v.4 w.4 m) (get-either xs ys j y other))
      (λ (h : (length xs ≤ i) × (slice_get ys (i - length xs) ≡ Some x)).
      ⊎_elim (λ (l : slice_get xs j ≡ Some y). let inside = slice_get_within xs j y l in let no : ⊥ = omega (arith, h.0, inside, less) in no)
      (λ (r : (length xs ≤ j) × (slice_get ys (j - length xs) ≡ Some y)).
      let below : i - length xs < j - length xs = omega (arith, h.0, r.0, less) in second.1 (i - length xs) (j - length xs) x y a b below h.1 r.1 f g m) (get-either xs ys j y other))
      (get-either xs ys i x one),
)

rises : (at : ℕ → ℕ) (n : ℕ) → ((k : ℕ) → at k ≤ at (suc k)) → at 0 ≤ at n
rises at zero steps = omega arith
rises at (suc n) steps = let rest = rises at n steps in let step = steps n in omega (arith, rest, step)

pub spread-clients : {C T : Type 0} (plan : Plan) (range : T → Option Range) (Q : ℕ → Type 0) (rows : ℕ → C → List T) (at : ℕ → ℕ) (n : ℕ) (clients : List C) → Valid plan
    → ((k : ℕ) → at k ≤ at (suc k)) → ((k : ℕ) (client : C) → slice_get clients k ≡ Some client → Spread plan range Q (at k) (at (suc k)) (rows (n + k) client))
    → Spread plan range Q (at 0) (at (length clients)) (each_client rows n clients)
spread-clients plan range Q rows at n [] valid steps h = spread-none plan range Q (at 0) (at 0)
spread-clients {C} plan range Q rows at n (client ∷ rest) valid steps h =
    spread-both plan range Q (at 0) (at 1) (at (suc (length rest))) (rows n client) (each_client rows (n + 1) rest) valid (steps 0)
    (rises (λ k. at (suc k)) (length rest) (λ k. steps (suc k)))
    (subst (λ c. Spread plan range Q (at 0) (at 1) (rows c client)) (add-zero n) (h 0 client refl))
    (spread-clients plan range Q rows (λ k. at (suc k)) (n + 1) rest valid (λ k. steps (suc k))
    (λ k (other : C) there. let same : n + suc k ≡ n + 1 + k = omega arith in subst (λ c. Spread plan range Q (at (suc k)) (at (suc (suc k))) (rows c other)) same (h (suc k) other there)))

pub spread-class : {C T : Type 0} (plan : Plan) (range : T → Option Range) (Q : ℕ → Type 0) (low : ℕ) (names : C → List (List ℕ)) (rows : C → List T) (class : Option C)
    → ((x : C) → class ≡ Some x → Spread plan range Q low (low + length (names x)) (rows x))
    → Spread plan range Q low (low + length (option_map_or names class [])) (option_map_or rows class [])
spread-class plan range Q low names rows None h = spread-none plan range Q low (low + 0)
spread-class plan range Q low names rows (Some x) h = h x refl

-- one row, and two rows in one region
pub spread-one : {T : Type 0} (plan : Plan) (range : T → Option Range) (Q : ℕ → Type 0) (key : ℕ) (x : T) → Q key → ((a : Range) → range x ≡ Some a → Held plan key a)
    → Spread plan range Q key (key + 1) (x ∷ [])
spread-one {T} plan range Q key x q held = (within, apart)
  where
    within : Within plan range Q key (key + 1) (x ∷ [])
    within zero y a there is =
        let same : y ≡ x = some-inj (sym there) in
        (key, omega arith, omega arith, q, held a (ap range (sym same) ∙ is))
    within (suc i) y a there is = absurd (none-is-some there)

    apart : Apart range (x ∷ [])
    apart i zero y z a b less one other f g m = absurd (omega arith)
    apart i (suc j) y z a b less one other f g m = absurd (none-is-some other)

pub spread-two : {T : Type 0} (plan : Plan) (range : T → Option Range) (Q : ℕ → Type 0) (key : ℕ) (x y : T) → Q key → ((a : Range) → range x ≡ Some a → Held plan key a)
    → ((b : Range) → range y ≡ Some b → Held plan key b) → ((a b : Range) → range x ≡ Some a → range y ≡ Some b → Meets a b → ⊥)
    → Spread plan range Q key (key + 1) (x ∷ y ∷ [])
spread-two {T} plan range Q key x y q first second parted = (within, apart)
  where
    within : Within plan range Q key (key + 1) (x ∷ y ∷ [])
    within zero z a there is =
        let same : z ≡ x = some-inj (sym there) in (key, omega arith, omega arith, q, first a (ap range (sym same) ∙ is))
    within (suc zero) z a there is =
        let same : z ≡ y = some-inj (sym there) in (key, omega arith, omega arith, q, second a (ap range (sym same) ∙ is))
    within (suc (suc i)) z a there is = absurd (none-is-some there)

    apart : Apart range (x ∷ y ∷ [])
    apart i zero z w a b less one other f g m = absurd (omega arith)
    apart zero (suc zero) z w a b less one other f g m =
        let here : z ≡ x = some-inj (sym one) in
        let there : w ≡ y = some-inj (sym other) in
        parted a b (ap range (sym here) ∙ f) (ap range (sym there) ∙ g) m
    apart (suc i) (suc zero) z w a b less one other f g m = absurd (omega arith)
    apart i (suc (suc j)) z w a b less one other f g m = absurd (none-is-some other)

-- rows with no range
pub spread-free : {T : Type 0} (plan : Plan) (range : T → Option Range) (Q : ℕ → Type 0) (low high : ℕ) (x y : T) → range x ≡ None → range y ≡ None → Spread plan range Q low high (x ∷ y ∷ [])
spread-free {T} plan range Q low high x y ex ey = (λ i z a there is. absurd (free i z a there is), λ i j z w a b less one other f g m. free i z a one f)
  where
    free : (i : ℕ) (z : T) (a : Range) → slice_get (x ∷ y ∷ []) i ≡ Some z → range z ≡ Some a → ⊥
    free zero z a there is = let same : z ≡ x = some-inj (sym there) in none-is-some (sym ex ∙ ap range (sym same) ∙ is)
    free (suc zero) z a there is = let same : z ≡ y = some-inj (sym there) in none-is-some (sym ey ∙ ap range (sym same) ∙ is)
    free (suc (suc i)) z a there is = none-is-some there

-- a range in a region that is large enough
abbrev pub part_of : Plan → Option ℕ → ℕ → ℕ → Option Range
part_of plan region offset size = option_map (λ r. (base plan r + offset, base plan r + offset + size)) region

pub part-there : (plan : Plan) (region : Option ℕ) (offset size : ℕ) (a : Range) → part_of plan region offset size ≡ Some a
    → (r : ℕ) × (region ≡ Some r) × (a.0 ≡ base plan r + offset) × (a.1 ≡ base plan r + offset + size)
part-there plan None offset size a is = absurd (none-is-some is)
part-there plan (Some r) offset size a is =
    let same : (base plan r + offset, base plan r + offset + size) ≡ a = some-inj is in
    (r, refl, ap (λ (x : Range). x.0) (sym same), ap (λ (x : Range). x.1) (sym same))

pub part-held : (plan : Plan) (key : ℕ) (name : List ℕ) (need offset size : ℕ) (a : Range) → slice_get (class_regions plan) key ≡ Some name → (IsSmaller plan (name, need) → ⊥)
    → offset + size ≤ need → part_of plan (region_named plan name) offset size ≡ Some a → Held plan key a
part-held plan key name need offset size a at large fits is =
    let there = part-there plan (region_named plan name) offset size a is in
    let found = large-region plan name need there.0 large there.1 in
    let low : base plan there.0 ≤ a.0 = omega (arith, there.2) in
    let high : a.1 ≤ base plan there.0 + found.0.size = omega (arith, there.3, fits, found.2) in
    (name, there.0, found.0, at, there.1, found.1, low, high)

-- the two parts of one region
pub parts-apart : (plan : Plan) (region : Option ℕ) (size offset more : ℕ) (a b : Range) → size ≤ offset → part_of plan region 0 size ≡ Some a → part_of plan region offset more ≡ Some b → Meets a b → ⊥
parts-apart plan region size offset more a b less first second m =
    let one = part-there plan region 0 size a first in
    let other = part-there plan region offset more b second in
    let same : one.0 ≡ other.0 = some-inj (sym one.1 ∙ other.1) in
    let bases : base plan one.0 ≡ base plan other.0 = ap (base plan) same in
    let no : ⊥ = omega (arith, less, bases, one.3, other.2, m.2, m.3) in no

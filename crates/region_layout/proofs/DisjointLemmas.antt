use Rattle.std.proofs.Common.{◌≡◌, ℕ, zero, suc, ◌+◌, ◌<◌, ◌≤◌, ◌⊎◌, inl, inr, max, List, [], ◌∷◌, fold, Option, Some, None, slice_get, refl, sym, arith}
use Rattle.sdf_plan.specs.declared.plan.Region.{Region}
use Rattle.region_layout.specs.Bases.{given_end, floor_of, round_up, base_at, free_after, bases_from, bases_of, AreDisjoint, AreGivenApart}
use Rattle.region_layout.specs.Sizes.{AreSmallRegions}

opt_cases : (o : Option ℕ) → (o ≡ None) ⊎ ((p : ℕ) × (o ≡ Some p))
opt_cases None = inl refl
opt_cases (Some p) = inr (p, refl)

round_up_above : (number size : ℕ) → 1 ≤ size → number ≤ round_up number size
round_up_above number size some = omega arith

free_grows : (free : ℕ) (r : Region) → 1 ≤ r.page_size → free ≤ free_after free r
free_grows free r some = elim (opt_cases r.phys_addr) [
  | inl none ↦ rw none (let up = round_up_above free r.page_size some in omega arith)
  | inr given ↦ rw given.1 (omega arith)
]

base_floor : (regions : List Region) (free k : ℕ) (r : Region) (at : ℕ) → ((j : ℕ) (x : Region) → slice_get regions j ≡ Some x → 1 ≤ x.page_size)
    → slice_get regions k ≡ Some r → r.phys_addr ≡ None → slice_get (bases_from free regions) k ≡ Some at → free ≤ at
base_floor [] free k r at pages there none base = cc
base_floor (x ∷ xs) free zero r at pages there none base =
    let same : x ≡ r = cc in
    let is : base_at free x ≡ at = cc in
    let placed : base_at free x ≡ round_up free x.page_size = rw (rw (sym same) at none) refl in
    let up = round_up_above free x.page_size (pages 0 x refl) in
    omega arith
base_floor (x ∷ xs) free (suc k) r at pages there none base =
    let grown = free_grows free x (pages 0 x refl) in
    let rest = base_floor xs (free_after free x) k r at (λ j. pages (suc j)) there none base in
    omega arith

placed_apart : (regions : List Region) (free a b : ℕ) (first second : Region) (at other : ℕ) → ((j : ℕ) (x : Region) → slice_get regions j ≡ Some x → 1 ≤ x.page_size) → a < b
    → slice_get regions a ≡ Some first → slice_get regions b ≡ Some second → first.phys_addr ≡ None → second.phys_addr ≡ None
    → slice_get (bases_from free regions) a ≡ Some at → slice_get (bases_from free regions) b ≡ Some other → at + first.size ≤ other
placed_apart [] free a b first second at other pages below there here none placed base behind = cc
placed_apart (x ∷ xs) free a zero first second at other pages below there here none placed base behind = absurd (omega arith)
placed_apart (x ∷ xs) free zero (suc b) first second at other pages below there here none placed base behind =
    let same : x ≡ first = cc in
    let unset : x.phys_addr ≡ None = rw same none in
    let is : base_at free x ≡ at = cc in
    let up : base_at free x ≡ round_up free x.page_size = rw unset refl in
    let after : free_after free x ≡ round_up free x.page_size + x.size = rw unset refl in
    let size : x.size ≡ first.size = rw same refl in
    let rest = base_floor xs (free_after free x) b second other (λ j. pages (suc j)) here placed behind in
    omega arith
placed_apart (x ∷ xs) free (suc a) (suc b) first second at other pages below there here none placed base behind =
    placed_apart xs (free_after free x) a b first second at other (λ j. pages (suc j)) (omega arith) there here none placed base behind

given_base : (regions : List Region) (free k : ℕ) (r : Region) (p at : ℕ) → slice_get regions k ≡ Some r → r.phys_addr ≡ Some p → slice_get (bases_from free regions) k ≡ Some at → at ≡ p
given_base [] free k r p at there given base = cc
given_base (x ∷ xs) free zero r p at there given base =
    let same : x ≡ r = cc in
    let is : base_at free x ≡ at = cc in
    let set : x.phys_addr ≡ Some p = rw same given in
    let there : base_at free x ≡ p = rw set refl in
    cc
given_base (x ∷ xs) free (suc k) r p at there given base = given_base xs (free_after free x) k r p at there given base

abbrev lower : ℕ → Region → ℕ
lower low region = max low (given_end region)

fold_floor : (regions : List Region) (low : ℕ) → low ≤ fold lower low regions
fold_floor [] low = omega arith
fold_floor (x ∷ xs) low = let rest = fold_floor xs (lower low x) in omega arith

given_below : (regions : List Region) (low k : ℕ) (r : Region) (p : ℕ) → slice_get regions k ≡ Some r → r.phys_addr ≡ Some p → p + r.size ≤ fold lower low regions
given_below [] low k r p there given = cc
given_below (x ∷ xs) low zero r p there given =
    let same : x ≡ r = cc in
    let set : x.phys_addr ≡ Some p = rw same given in
    let end : given_end x ≡ p + x.size = rw set refl in
    let size : x.size ≡ r.size = rw same refl in
    let rest = fold_floor xs (lower low x) in
    omega arith
given_below (x ∷ xs) low (suc k) r p there given = given_below xs (lower low x) k r p there given

-- the regions of a layout have no address in common
pub are_disjoint : (regions : List Region) → AreSmallRegions regions → AreGivenApart regions → AreDisjoint regions (bases_of regions)
unfolding bases_of
are_disjoint regions small apart a b first second at other below there here base behind =
    let pages : (j : ℕ) (x : Region) → slice_get regions j ≡ Some x → 1 ≤ x.page_size = λ j x is. (small.each j x is).page in
    elim (opt_cases first.phys_addr) [
      | inl none ↦ elim (opt_cases second.phys_addr) [
        | inl placed ↦ inl (placed_apart regions (floor_of regions) a b first second at other pages below there here none placed base behind)
        | inr given ↦
            let is = given_base regions (floor_of regions) b second given.0 other here given.1 behind in
            let end = given_below regions 0x40000000 b second given.0 here given.1 in
            let floor = base_floor regions (floor_of regions) a first at pages there none base in
            inr (omega arith)
      ]
      | inr given ↦
          let is = given_base regions (floor_of regions) a first given.0 at there given.1 base in
          elim (opt_cases second.phys_addr) [
            | inl placed ↦
                let end = given_below regions 0x40000000 a first given.0 there given.1 in
                let floor = base_floor regions (floor_of regions) b second other pages here placed behind in
                inl (omega arith)
            | inr set ↦
                let at_given = given_base regions (floor_of regions) b second set.0 other here set.1 behind in
                rw (is, at_given) (apart a b first second given.0 set.0 below there here given.1 set.1)
          ]
    ]

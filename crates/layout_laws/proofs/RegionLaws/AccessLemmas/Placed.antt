use Rattle.std.proofs.Common.{◌≡◌, ℕ, zero, suc, ◌+◌, ◌-◌, ◌*◌, ◌/◌, ◌<◌, ◌≤◌, ◌⊎◌, inl, inr, ⊎_elim, max, List, [], ◌∷◌, fold, Some, None, slice_get, refl, ap, ◌∙◌, arith}
use Rattle.std.proofs.lemmas.Bool.{cases_lt}
use Rattle.std.proofs.lemmas.Nat.{mul-le, div-add-mod'}
use Rattle.sdf_plan.specs.declared.plan.Plan.{Plan}
use Rattle.sdf_plan.specs.declared.plan.Region.{Region}
use Rattle.sdf_check.specs.Valid.{Valid}
use Rattle.sdf_check.proofs.SweepLemmas.{some-inj}
use Rattle.region_layout.specs.Bases.{given_end, floor_of, round_up, base_at, free_after, bases_from, bases_of}
use Rattle.region_layout.proofs.ValidLemmas.{small_numbers}
use Rattle.layout_laws.proofs.Lists.{option_cases}
use Rattle.layout_laws.specs.RegionLaws.Access.Placing.{IsLeastBase, ArePlaced}

abbrev Pages : List Region → Type 0
Pages regions = (j : ℕ) (x : Region) → slice_get regions j ≡ Some x → 1 ≤ x.page_size

-- what is free when a region's turn comes
abbrev free_at : ℕ → List Region → ℕ → ℕ
free_at free regions zero = free
free_at free [] (suc r) = free
free_at free (x ∷ xs) (suc r) = free_at (free_after free x) xs r

base_of_placed : (free : ℕ) (x : Region) → x.phys_addr ≡ None → base_at free x ≡ round_up free x.page_size
base_of_placed free x h = rw h refl

free_of_placed : (free : ℕ) (x : Region) → x.phys_addr ≡ None → free_after free x ≡ round_up free x.page_size + x.size
free_of_placed free x h = rw h refl

free_of_given : (free : ℕ) (x : Region) (p : ℕ) → x.phys_addr ≡ Some p → free_after free x ≡ free
free_of_given free x p h = rw h refl

base_of_given : (free : ℕ) (x : Region) (p : ℕ) → x.phys_addr ≡ Some p → base_at free x ≡ p
base_of_given free x p h = rw h refl

up_above : (number size : ℕ) → 1 ≤ size → number ≤ round_up number size
up_above number size some = omega arith

-- rounding up gives the least multiple
up_least : (number size times : ℕ) → 1 ≤ size → number ≤ times * size → round_up number size ≤ times * size
up_least number size times some enough =
    let count : ℕ = (number + (size - 1)) / size in
    let split = div-add-mod' (number + (size - 1)) size in
    let most : count ≤ times =
    ⊎_elim (λ (more : times < count).
    let grown : (times + 1) * size ≤ count * size = mul-le (times + 1) size count size (omega (arith, more)) (omega arith) in
    let apart : (times + 1) * size ≡ times * size + size = omega arith in
    absurd (let no : ⊥ = omega (arith, grown, apart, split, enough, some) in no)) (λ (fine : count ≤ times). fine) (cases_lt times count) in
    mul-le count size times size most (omega arith)

grows : (free : ℕ) (x : Region) → 1 ≤ x.page_size → free ≤ free_after free x
grows free x some = elim (option_cases x.phys_addr) [
  | inl none ↦ rw none (let up = up_above free x.page_size some in omega (arith, up))
  | inr given ↦ rw given.1 (omega arith)
]

free_grows : (regions : List Region) (free r : ℕ) → Pages regions → free ≤ free_at free regions r
free_grows regions free zero pages = omega arith
free_grows [] free (suc r) pages = omega arith
free_grows (x ∷ xs) free (suc r) pages =
    let one = grows free x (pages 0 x refl) in
    let rest = free_grows xs (free_after free x) r (λ j. pages (suc j)) in
    omega (arith, one, rest)

base_is : (regions : List Region) (free r : ℕ) (region : Region) → slice_get regions r ≡ Some region → slice_get (bases_from free regions) r ≡ Some (base_at (free_at free regions r) region)
base_is [] free r region at = cc
base_is (x ∷ xs) free zero region at = ap (λ (y : Region). Some (base_at free y)) (some-inj at)
base_is (x ∷ xs) free (suc r) region at = base_is xs (free_after free x) r region at

-- the end of each region that was placed before
ends_below : (regions : List Region) (free r k : ℕ) (placed : Region) (base : ℕ) → Pages regions → k < r → slice_get regions k ≡ Some placed → placed.phys_addr ≡ None
    → slice_get (bases_from free regions) k ≡ Some base → base + placed.size ≤ free_at free regions r
ends_below [] free r k placed base pages less there none at = cc
ends_below (x ∷ xs) free zero k placed base pages less there none at = absurd (omega arith)
ends_below (x ∷ xs) free (suc r) zero placed base pages less there none at =
    let same : x ≡ placed = some-inj there in
    let unset : x.phys_addr ≡ None = ap (λ (y : Region). y.phys_addr) same ∙ none in
    let is : base_at free x ≡ base = some-inj at in
    let up = base_of_placed free x unset in
    let after = free_of_placed free x unset in
    let size : x.size ≡ placed.size = ap (λ (y : Region). y.size) same in
    let rest = free_grows xs (free_after free x) r (λ j. pages (suc j)) in
    omega (arith, is, up, after, size, rest)
ends_below (x ∷ xs) free (suc r) (suc k) placed base pages less there none at =
    ends_below xs (free_after free x) r k placed base (λ j. pages (suc j)) (omega (arith, less)) there none at

-- and nothing more
most_free : (regions : List Region) (free r other : ℕ) → free ≤ other
    → ((k : ℕ) (placed : Region) (base : ℕ) → k < r → slice_get regions k ≡ Some placed → placed.phys_addr ≡ None → slice_get (bases_from free regions) k ≡ Some base → base + placed.size ≤ other)
    → free_at free regions r ≤ other
most_free regions free zero other low ends = low
most_free [] free (suc r) other low ends = low
most_free (x ∷ xs) free (suc r) other low ends =
    most_free xs (free_after free x) r other (next (option_cases x.phys_addr)) (λ k placed base less there none at. ends (suc k) placed base (omega (arith, less)) there none at)
  where
    next : ((x.phys_addr ≡ None) ⊎ ((p : ℕ) × (x.phys_addr ≡ Some p))) → free_after free x ≤ other
    next (inl none) =
        let up = base_of_placed free x none in
        let after = free_of_placed free x none in
        let end = ends 0 x (base_at free x) (omega arith) refl none refl in
        omega (arith, up, after, end)
    next (inr given) = let same = free_of_given free x given.0 given.1 in omega (arith, same, low)

abbrev lower : ℕ → Region → ℕ
lower low region = max low (given_end region)

end_of_given : (x : Region) (p : ℕ) → x.phys_addr ≡ Some p → given_end x ≡ p + x.size
end_of_given x p h = rw h refl

end_of_none : (x : Region) → x.phys_addr ≡ None → given_end x ≡ 0
end_of_none x h = rw h refl

fold_floor : (regions : List Region) (low : ℕ) → low ≤ fold lower low regions
fold_floor [] low = omega arith
fold_floor (x ∷ xs) low = let rest = fold_floor xs (lower low x) in omega (arith, rest)

given_below : (regions : List Region) (low k : ℕ) (given : Region) (p : ℕ) → slice_get regions k ≡ Some given → given.phys_addr ≡ Some p → p + given.size ≤ fold lower low regions
given_below [] low k given p there set = cc
given_below (x ∷ xs) low zero given p there set =
    let same : x ≡ given = some-inj there in
    let here : x.phys_addr ≡ Some p = ap (λ (y : Region). y.phys_addr) same ∙ set in
    let end = end_of_given x p here in
    let size : x.size ≡ given.size = ap (λ (y : Region). y.size) same in
    let rest = fold_floor xs (lower low x) in
    omega (arith, end, size, rest)
given_below (x ∷ xs) low (suc k) given p there set = given_below xs (lower low x) k given p there set

most_floor : (regions : List Region) (low other : ℕ) → low ≤ other → ((k : ℕ) (given : Region) (p : ℕ) → slice_get regions k ≡ Some given → given.phys_addr ≡ Some p → p + given.size ≤ other)
    → fold lower low regions ≤ other
most_floor [] low other enough ends = enough
most_floor (x ∷ xs) low other enough ends = most_floor xs (lower low x) other (next (option_cases x.phys_addr)) (λ k. ends (suc k))
  where
    next : ((x.phys_addr ≡ None) ⊎ ((p : ℕ) × (x.phys_addr ≡ Some p))) → lower low x ≤ other
    next (inl none) = let end = end_of_none x none in omega (arith, end, enough)
    next (inr given) =
        let end = end_of_given x given.0 given.1 in
        let fits = ends 0 x given.0 refl given.1 in
        omega (arith, end, fits, enough)

least_base : (regions : List Region) (r : ℕ) (region : Region) → Pages regions → slice_get regions r ≡ Some region → region.phys_addr ≡ None
    → IsLeastBase regions (bases_of regions) r region (base_at (free_at (floor_of regions) regions r) region)
unfolding bases_of
least_base regions r region pages there none =
    let free : ℕ = free_at (floor_of regions) regions r in
    let is = base_of_placed free region none in
    let above = up_above free region.page_size (pages r region there) in
    let grown = free_grows regions (floor_of regions) r pages in
    let low = fold_floor regions 0x40000000 in
    record {
      multiple = ((free + (region.page_size - 1)) / region.page_size, is);
      free = record {
        low = omega (arith, is, above, grown, low);
        given = λ k given p at set. let end = given_below regions 0x40000000 k given p at set in omega (arith, is, above, grown, end);
        placed = λ k placed base less at unset based. let end = ends_below regions (floor_of regions) r k placed base pages less at unset based in omega (arith, is, above, end);
      };
      least = λ other multiple fits.
          let floor = most_floor regions 0x40000000 other fits.low fits.given in
          let most = most_free regions (floor_of regions) r other floor fits.placed in
          let enough : free ≤ multiple.0 * region.page_size = let same = multiple.1 in omega (arith, same, most) in
          let up = up_least free region.page_size multiple.0 (pages r region there) enough in
          let same = multiple.1 in
          omega (arith, is, up, same);
    }

-- the regions of a valid plan
pub regions_placed : (plan : Plan) → Valid plan → ArePlaced plan.memory_region (bases_of plan.memory_region)
unfolding bases_of
regions_placed plan valid r region there =
    let regions : List Region = plan.memory_region in
    let pages : Pages regions = λ j x is. ((small_numbers plan valid).regions.each j x is).page in
    record {
      base = base_at (free_at (floor_of regions) regions r) region;
      at = base_is regions (floor_of regions) r region there;
      given = λ p set. base_of_given (free_at (floor_of regions) regions r) region p set;
      placed = λ none. least_base regions r region pages there none;
    }

-- A merge up to a place: what of each list went into it there, told by a test for each list, and
-- what is left.
use Rattle.std.proofs.Common.{◌≡◌, ◌⊎◌, ⊎_elim, ◌+◌, ◌<◌, ◌≤◌, ◌++◌, ℕ, zero, suc, Bool, true, false, Some, List, [], ◌∷◌, length, take, slice_get, slice_set, sum_by, inl, inr, refl, sym, ap, ◌∙◌, subst, arith}
use Rattle.std.proofs.lemmas.Bool.{cases_lt}
use Rattle.std.proofs.lemmas.List.Sums.{sum_by-cons}
use Rattle.cargo_core.specs.Lists.{Merge, merge_none, merge_next}
use Rattle.wire_core.specs.Bells.{bit}
use Rattle.owner_law.proofs.Sums.{sum_none}
use Rattle.play_core.proofs.Lists.{some_is}

set_here : {T : Type 0} (xs : List T) (k : ℕ) (x y : T) → slice_get xs k ≡ Some x → slice_get (slice_set xs k y) k ≡ Some y
set_here [] k x y at = absurd cc
set_here (a ∷ xs) zero x y at = refl
set_here (a ∷ xs) (suc k) x y at = set_here xs k x y at

set_other : {T : Type 0} (xs : List T) (k i : ℕ) (y : T) → (i ≡ k → ⊥) → slice_get (slice_set xs k y) i ≡ slice_get xs i
set_other [] k i y other = refl
set_other (a ∷ xs) zero zero y other = absurd (other refl)
set_other (a ∷ xs) zero (suc i) y other = refl
set_other (a ∷ xs) (suc k) zero y other = refl
set_other (a ∷ xs) (suc k) (suc i) y other = set_other xs k i y (λ e. other (ap suc e))

set_long : {T : Type 0} (xs : List T) (k : ℕ) (y : T) → length (slice_set xs k y) ≡ length xs
set_long [] k y = refl
set_long (a ∷ xs) zero y = refl
set_long (a ∷ xs) (suc k) y = ap suc (set_long xs k y)

same_or_not : (i k : ℕ) → (i ≡ k) ⊎ (i ≡ k → ⊥)
same_or_not i k =
    ⊎_elim (λ (lt : i < k). inr (λ e. omega (arith, lt, e)))
    (λ (ge : k ≤ i). ⊎_elim (λ (lt : k < i). inr (λ e. omega (arith, lt, e))) (λ (le : i ≤ k). inl (omega (arith, ge, le))) (cases_lt k i)) (cases_lt i k)

sum_first : {X : Type 0} (f : X → ℕ) (lists : List (List X)) (k : ℕ) (x : X) (l : List X) → slice_get lists k ≡ Some (x ∷ l) → sum_by (λ ys. sum_by f ys) lists ≡ f x + sum_by (λ ys. sum_by f ys) (slice_set lists k l)
sum_first f [] k x l at = absurd cc
sum_first f (y ∷ lists) zero x l at =
    let head : sum_by f y ≡ f x + sum_by f l = ap (sum_by f) (some_is at) ∙ sum_by-cons f x l in
    omega (arith, head, sum_by-cons (λ ys. sum_by f ys) y lists, sum_by-cons (λ ys. sum_by f ys) l lists)
sum_first f (y ∷ lists) (suc k) x l at = omega (arith, sum_by-cons (λ ys. sum_by f ys) y lists, sum_by-cons (λ ys. sum_by f ys) y (slice_set lists k l), sum_first f lists k x l at)

pub merge_sum : {X : Type 0} (f : X → ℕ) (lists : List (List X)) (all : List X) → Merge lists all → sum_by f all ≡ sum_by (λ l. sum_by f l) lists
merge_sum f lists _ (merge_none lists_ empty) = sym (sum_none (λ l. sum_by f l) lists (λ k l at. ap (sum_by f) (empty k l at)))
merge_sum f lists _ (merge_next lists_ k x l all first rest) = omega (arith, sum_by-cons f x all, merge_sum f (slice_set lists_ k l) all rest, sum_first f lists_ k x l first)

-- how many of the first so many pass a test
abbrev pub hits : {X : Type 0} → (X → Bool) → ℕ → List X → ℕ
hits test zero xs = 0
hits test (suc n) [] = 0
hits test (suc n) (x ∷ xs) = bit (test x) + hits test n xs

-- the elements of each list pass its test and no other
abbrev pub AreTold : {X : Type 0} → (ℕ → X → Bool) → List (List X) → Type 0
AreTold {X} tests lists = (k j : ℕ) (l : List X) (x : X) → slice_get lists k ≡ Some l → slice_get l j ≡ Some x → (tests k x ≡ true) × ((i : ℕ) → (i ≡ k → ⊥) → tests i x ≡ false)

-- what of a list went into the first so many, and what is left of it
pub record IsParted {X : Type 0} (test : X → Bool) (n : ℕ) (all : List X) (left : List (List X)) (k : ℕ) (l : List X) : Type 0 where
  pub front : List X
  pub rest : List X
  pub there : slice_get left k ≡ Some rest
  pub whole : front ++ rest ≡ l
  pub many : length front ≡ hits test n all

pub record ArePartedAt {X : Type 0} (tests : ℕ → X → Bool) (f : X → ℕ) (lists : List (List X)) (all : List X) (n : ℕ) : Type 0 where
  pub left : List (List X)
  pub as_many : length left ≡ length lists
  pub each : (k : ℕ) (l : List X) → slice_get lists k ≡ Some l → IsParted (tests k) n all left k l
  pub sum : sum_by f all ≡ sum_by f (take n all) + sum_by (λ l. sum_by f l) left

no_hits : {X : Type 0} (test : X → Bool) (n : ℕ) (all : List X) → all ≡ [] → hits test n all ≡ 0
no_hits test zero all none = refl
no_hits test (suc n) [] none = refl
no_hits test (suc n) (x ∷ all) none = absurd cc

told_on : {X : Type 0} (tests : ℕ → X → Bool) (lists : List (List X)) (k : ℕ) (x : X) (l : List X) → slice_get lists k ≡ Some (x ∷ l) → AreTold tests lists → AreTold tests (slice_set lists k l)
told_on tests lists k x l at told i j ys y i_at j_at = elim (same_or_not i k) [
  | inl same ↦
      let here : ys ≡ l = some_is (sym i_at ∙ (ap (slice_get (slice_set lists k l)) same ∙ set_here lists k (x ∷ l) l at)) in
      let t = told k (suc j) (x ∷ l) y at (subst (λ zs. slice_get zs j ≡ Some y) here j_at) in
      (subst (λ n. tests n y ≡ true) (sym same) t.0, λ n other. t.1 n (λ e. other (e ∙ sym same)))
  | inr other ↦ told i j ys y (sym (set_other lists k i l other) ∙ i_at) j_at
]

part_step : {X : Type 0} (tests : ℕ → X → Bool) (f : X → ℕ) (lists : List (List X)) (k : ℕ) (x : X) (l all : List X) (n : ℕ) → slice_get lists k ≡ Some (x ∷ l) → AreTold tests lists → (later : ArePartedAt tests f (slice_set lists k l) all n)
    → (i : ℕ) (ys : List X) → slice_get lists i ≡ Some ys → (i ≡ k) ⊎ (i ≡ k → ⊥) → IsParted (tests i) (suc n) (x ∷ all) later.left i ys
part_step tests f lists k x l all n first told later i ys at (inl same) =
    let p = later.each k l (set_here lists k (x ∷ l) l first) in
    let own : bit (tests k x) ≡ 1 = ap bit (told k 0 (x ∷ l) x first refl).0 in
    let is : x ∷ l ≡ ys = some_is (sym first ∙ (ap (slice_get lists) (sym same) ∙ at)) in
    let many = p.many in
    subst (λ m. IsParted (tests m) (suc n) (x ∷ all) later.left m ys) (sym same)
    (record { front = x ∷ p.front; rest = p.rest; there = p.there; whole = ap (λ zs. x ∷ zs) p.whole ∙ is; many = omega (arith, many, own) })
part_step tests f lists k x l all n first told later i ys at (inr other) =
    let p = later.each i ys (set_other lists k i l other ∙ at) in
    let none : bit (tests i x) ≡ 0 = ap bit ((told k 0 (x ∷ l) x first refl).1 i other) in
    let many = p.many in
    record { front = p.front; rest = p.rest; there = p.there; whole = p.whole; many = omega (arith, many, none) }

pub parted : {X : Type 0} (tests : ℕ → X → Bool) (f : X → ℕ) (lists : List (List X)) (all : List X) → Merge lists all → AreTold tests lists → (n : ℕ) → ArePartedAt tests f lists all n
parted tests f lists all merge told zero = record {
  left = lists;
  as_many = refl;
  each = λ k l at. record { front = []; rest = l; there = at; whole = refl; many = refl };
  sum = let all_sum = merge_sum f lists all merge in omega (arith, all_sum);
}
parted tests f lists _ (merge_none lists_ empty) told (suc n) = record {
  left = lists;
  as_many = refl;
  each = λ k l at. record { front = []; rest = l; there = at; whole = refl; many = refl };
  sum = let all_sum = merge_sum f lists [] (merge_none lists_ empty) in omega (arith, all_sum);
}
parted {X} tests f lists _ (merge_next lists_ k x l all first rest) told (suc n) =
    let later = parted tests f (slice_set lists_ k l) all rest (told_on tests lists_ k x l first told) n in
    record {
      left = later.left;
      as_many = later.as_many ∙ set_long lists_ k l;
      each = λ i ys at. part_step tests f lists_ k x l all n first told later i ys at (same_or_not i k);
      sum = omega (arith, sum_by-cons f x all, sum_by-cons f x (take n all), later.sum);
    }

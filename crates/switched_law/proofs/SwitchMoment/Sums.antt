-- Sums over the numbers below one, and over several lists.
use Rattle.std.proofs.Common.{◌≡◌, ◌⊎◌, ◌==◌, ◌+◌, ◌*◌, ◌<◌, ◌≤◌, ℕ, zero, suc, Bool, true, false, Some, List, [], ◌∷◌, length, slice_get, sum_by, refl, sym, ap, ◌∙◌, arith, inl, inr}
use Rattle.std.proofs.lemmas.Bool.{cases_lt, cases_Bool, eq-eqb, eqb-true, ne_eqb}
use Rattle.std.proofs.lemmas.List.Sums.{sum_by-cons}
use Rattle.wire_core.specs.Bells.{bit}
use Rattle.wire_core.specs.Marks.{sum_below}
use Rattle.play_core.specs.Totals.{total}

cases_same : (a b : ℕ) → (a ≡ b) ⊎ (a ≡ b → ⊥)
cases_same a b = elim (cases_Bool (a == b)) [
  | inl is ↦ inl (eqb-true a b is)
  | inr isnt ↦ inr (λ e. let bad = sym (eq-eqb a b e) ∙ isnt in cc)
]

-- the first of a sum
sum_front : (f : ℕ → ℕ) (n : ℕ) → sum_below f (suc n) ≡ f 0 + sum_below (λ k. f (suc k)) n
sum_front f zero = omega arith
sum_front f (suc n) = let rest = sum_front f n in omega (arith, rest)

-- a sum of sums
pub sum_both : (f g : ℕ → ℕ) (n : ℕ) → sum_below (λ k. f k + g k) n ≡ sum_below f n + sum_below g n
sum_both f g zero = refl
sum_both f g (suc n) = let rest = sum_both f g n in omega (arith, rest)

pub sum_same : (f g : ℕ → ℕ) (n : ℕ) → ((k : ℕ) → k < n → f k ≡ g k) → sum_below f n ≡ sum_below g n
sum_same f g zero same = refl
sum_same f g (suc n) same = let rest = sum_same f g n (λ k less. same k (omega (arith, less))) in let here = same n (omega arith) in omega (arith, rest, here)

pub sum_few : (f g : ℕ → ℕ) (n : ℕ) → ((k : ℕ) → k < n → f k ≤ g k) → sum_below f n ≤ sum_below g n
sum_few f g zero few = omega arith
sum_few f g (suc n) few = let rest = sum_few f g n (λ k less. few k (omega (arith, less))) in let here = few n (omega arith) in omega (arith, rest, here)

pub sum_none : (n : ℕ) → sum_below (λ k. 0) n ≡ 0
sum_none zero = refl
sum_none (suc n) = let rest = sum_none n in omega (arith, rest)

-- one of each
pub sum_each : (c n : ℕ) → sum_below (λ k. c) n ≡ n * c
sum_each c zero = omega arith
sum_each c (suc n) = let rest = sum_each c n in omega (arith, rest)

-- just one number is this one
pub sum_one : (s n : ℕ) → s < n → sum_below (λ k. bit (s == k)) n ≡ 1
sum_one s zero less = absurd (omega (arith, less))
sum_one s (suc n) less = elim (cases_lt s n) [
  | inl below ↦
      let rest = sum_one s n below in
      let here : bit (s == n) ≡ 0 = ap bit (ne_eqb s n (λ e. omega (arith, below, e))) in
      omega (arith, rest, here)
  | inr past ↦
      let same : s ≡ n = omega (arith, less, past) in
      let here : bit (s == n) ≡ 1 = ap bit (eq-eqb s n same) in
      let rest : sum_below (λ k. bit (s == k)) n ≡ 0 = sum_same (λ k. bit (s == k)) (λ k. 0) n (λ k low. ap bit (ne_eqb s k (λ e. omega (arith, low, same, e)))) ∙ sum_none n in
      omega (arith, rest, here)
]

-- how many of these are so, where one isn't
pub sum_but_one : (p : ℕ → Bool) (s n : ℕ) → s < n → p s ≡ false → sum_below (λ k. bit (p k)) n + 1 ≤ n
sum_but_one p s n less isnt =
    let both = sum_both (λ k. bit (p k)) (λ k. bit (s == k)) n in
    let one = sum_one s n less in
    let few = sum_few (λ k. bit (p k) + bit (s == k)) (λ k. 1) n (λ k low. elim (cases_same s k) [
      | inl is ↦ (let here : bit (p k) ≡ 0 = ap bit (ap p (sym is) ∙ isnt) in let e = few_bit (s == k) in omega (arith, here, e))
      | inr ne ↦ (let here : bit (s == k) ≡ 0 = ap bit (ne_eqb s k ne) in let e = few_bit (p k) in omega (arith, here, e))
    ]) in
    let all = sum_each 1 n in
    omega (arith, both, one, few, all)
  where
    few_bit : (b : Bool) → bit b ≤ 1
    few_bit true = omega arith
    few_bit false = omega arith

-- a sum of lengths
sum_total : {T : Type 0} (lists : List (List T)) (f : ℕ → ℕ) → ((k : ℕ) (l : List T) → slice_get lists k ≡ Some l → f k ≤ length l) → sum_below f (length lists) ≤ total lists
sum_total [] f few = omega arith
sum_total (l ∷ lists) f few =
    let front = sum_front f (length lists) in
    let here = few 0 l refl in
    let rest = sum_total lists (λ k. f (suc k)) (λ k m at. few (suc k) m at) in
    omega (arith, front, here, rest)

-- the lengths of lists together
total_sum : {T : Type 0} (lists : List (List T)) → total lists ≡ sum_by length lists
total_sum [] = refl
total_sum {T} (l ∷ lists) = let rest = total_sum lists in let e = sum_by-cons (λ (m : List T). length m) l lists in omega (arith, rest, e)

pub sum_lengths : {T : Type 0} (lists : List (List T)) (f : ℕ → ℕ) → ((k : ℕ) (l : List T) → slice_get lists k ≡ Some l → f k ≤ length l) → sum_below f (length lists) ≤ sum_by length lists
sum_lengths lists f few = let a = sum_total lists f few in let b = total_sum lists in omega (arith, a, b)

-- a sum by fours
pub sum_fours : (f : ℕ → ℕ) (n : ℕ) → sum_below f (4 * n) ≡ sum_below (λ k. f (4 * k) + f (4 * k + 1) + f (4 * k + 2) + f (4 * k + 3)) n
sum_fours f zero = refl
sum_fours f (suc n) =
    let next : 4 * suc n ≡ suc (suc (suc (suc (4 * n)))) = omega arith in
    let e : sum_below f (4 * suc n) ≡ sum_below f (suc (suc (suc (suc (4 * n))))) = ap (sum_below f) next in
    let rest = sum_fours f n in
    let n1 : suc (4 * n) ≡ 4 * n + 1 = omega arith in
    let a : f (suc (4 * n)) ≡ f (4 * n + 1) = ap f n1 in
    let n2 : suc (suc (4 * n)) ≡ 4 * n + 2 = omega arith in
    let b : f (suc (suc (4 * n))) ≡ f (4 * n + 2) = ap f n2 in
    let n3 : suc (suc (suc (4 * n))) ≡ 4 * n + 3 = omega arith in
    let c : f (suc (suc (suc (4 * n)))) ≡ f (4 * n + 3) = ap f n3 in
    omega (arith, e, rest, a, b, c)

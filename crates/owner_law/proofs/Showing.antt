use Rattle.std.proofs.Common.{◌≡◌, ◌⊎◌, ◌==◌, ◌+◌, ◌<◌, ◌≤◌, ◌≢◌, ℕ, zero, suc, Bool, true, false, nat_lt, Option, Some, None, [], length, replicate, refl, sym, ap, ◌∙◌, arith, inl, inr, ltb-true, ltb-false, length-append}
use Rattle.std.proofs.Math.Dec.{eqb}
use Rattle.std.proofs.lemmas.Bool.Decides.{eqb_tells}
use Rattle.std.proofs.lemmas.List.{length-replicate, append-nil}
use Rattle.std.proofs.lemmas.List.Sums.{sum_by-append}
use Rattle.wire_core.specs.Bells.{bit}
use Rattle.wire_core.specs.Marks.{sum_below}
use Rattle.owner_law.specs.Owners.{Nowhere, Spot, InQueue, InHand, is_spot, Lent, receivers}
use Rattle.owner_law.specs.Keeping.{stands_in, is_with, IsAmong}
use Rattle.owner_law.specs.Shown.{first_or, first_some, shown_place, spots_below}
use Rattle.owner_law.proofs.Sums.{when}
use Rattle.owner_law.proofs.Tables.{spots_at, replicate_at}

-- a number below is no more than the sum
at_most : (f : ℕ → ℕ) (k n : ℕ) → n < k → f n ≤ sum_below f k
at_most f zero n lt = absurd (omega (arith, lt))
at_most f (suc k) n lt = at_by (eqb_tells n k) (λ off. at_most f k n (omega (arith, lt, off)))
  where
    at_by : ((eqb n k ≡ true) × (n ≡ k)) ⊎ ((eqb n k ≡ false) × (n ≢ k)) → (n ≢ k → f n ≤ sum_below f k) → f n ≤ sum_below f k + f k
    at_by (inl h) rest = omega (arith, ap f h.1)
    at_by (inr h) rest = omega (arith, rest h.1)

-- nor are two of them
two_at_most : (f : ℕ → ℕ) (k n j : ℕ) → n < k → j < k → (n ≡ j → ⊥) → f n + f j ≤ sum_below f k
two_at_most f zero n j n_lt j_lt off = absurd (omega (arith, n_lt))
two_at_most f (suc k) n j n_lt j_lt off = two_by (eqb_tells n k) (eqb_tells j k) (λ a b. two_at_most f k n j (omega (arith, n_lt, a)) (omega (arith, j_lt, b)) off)
  where
    two_by : ((eqb n k ≡ true) × (n ≡ k)) ⊎ ((eqb n k ≡ false) × (n ≢ k)) → ((eqb j k ≡ true) × (j ≡ k)) ⊎ ((eqb j k ≡ false) × (j ≢ k)) → (n ≢ k → j ≢ k → f n + f j ≤ sum_below f k) → f n + f j ≤ sum_below f k + f k
    two_by (inl h) (inl g) rest = absurd (off (h.1 ∙ sym g.1))
    two_by (inl h) (inr g) rest = let le = at_most f k j (omega (arith, j_lt, λ (e : j ≡ k). g.1 e)) in omega (arith, ap f h.1, le)
    two_by (inr h) (inl g) rest = let le = at_most f k n (omega (arith, n_lt, λ (e : n ≡ k). h.1 e)) in omega (arith, ap f g.1, le)
    two_by (inr h) (inr g) rest = omega (arith, rest h.1 g.1)

-- what a first number tells
abbrev pub Tells : (ℕ → ℕ) → ℕ → Option ℕ → Type 0
Tells f k None = (n : ℕ) → n < k → f n ≡ 0
Tells f k (Some n) = (n < k) × (1 ≤ f n)

none_below : (f : ℕ → ℕ) (k n : ℕ) → f k ≡ 0 → ((j : ℕ) → j < k → f j ≡ 0) → n < suc k → ((eqb n k ≡ true) × (n ≡ k)) ⊎ ((eqb n k ≡ false) × (n ≢ k)) → f n ≡ 0
none_below f k n here below lt (inl h) = ap f h.1 ∙ here
none_below f k n here below lt (inr h) = below n (omega (arith, lt, λ (e : n ≡ k). h.1 e))

by_first : (f : ℕ → ℕ) (k : ℕ) (o : Option ℕ) (here : Bool) → nat_lt 0 (f k) ≡ here → Tells f k o → Tells f (suc k) (first_or o here k)
by_first f k (Some n) here is tells = (omega (arith, tells.0), tells.1)
by_first f k None true is tells = (omega arith, ltb-true 0 (f k) is)
by_first f k None false is tells = λ n lt. none_below f k n (omega (arith, ltb-false 0 (f k) is)) tells lt (eqb_tells n k)

pub first_tells : (f : ℕ → ℕ) (k : ℕ) → Tells f k (first_some f k)
first_tells f zero = λ n lt. absurd (omega (arith, lt))
first_tells f (suc k) = by_first f k (first_some f k) (nat_lt 0 (f k)) refl (first_tells f k)

-- one at its own number, and none at others
one_at : (q n d : ℕ) → (q ≡ n → d ≡ 1) → (q ≢ n → d ≡ 0) → ((eqb q n ≡ true) × (q ≡ n)) ⊎ ((eqb q n ≡ false) × (q ≢ n)) → bit (q == n) ≡ d
one_at q n d here there (inl h) = ap bit h.0 ∙ sym (here h.1)
one_at q n d here there (inr h) = ap bit h.0 ∙ sym (there h.1)

-- of a buffer that is left so often in each queue and is so often with each actor, at most once in all
module _ (left : ℕ → ℕ) (queues : ℕ) (has : ℕ → ℕ) (count lender owed : ℕ) (once : sum_below left queues + sum_below has count ≤ 1) (past : (n : ℕ) → queues ≤ n → left n ≡ 0) (lends : 1 ≤ owed → 1 ≤ has lender) (there : lender < count) where
  left_few : (q n : ℕ) → q < queues → 1 ≤ left q → (q ≡ n → ⊥) → left n ≡ 0
  left_few q n lt some off = by (nat_lt n queues) refl
    where
      by : (b : Bool) → nat_lt n queues ≡ b → left n ≡ 0
      by true is = omega (arith, once, some, two_at_most left queues q n lt (ltb-true n queues is) off)
      by false is = past n (ltb-false n queues is)

  none_with : (q : ℕ) → q < queues → 1 ≤ left q → (k : ℕ) → k < count → has k ≡ 0
  none_with q lt some k k_lt = omega (arith, once, some, at_most left queues q lt, at_most has count k k_lt)

  pub shows_stands : (oq oa : Option ℕ) → Tells left queues oq → Tells has count oa → (d n : ℕ) → stands_in n (shown_place oq oa d) ≡ left n
  shows_stands (Some q) oa tells told d n = one_at q n (left n) (λ e. omega (arith, ap left e, tells.1, once, at_most left queues q tells.0)) (λ off. left_few q n tells.0 tells.1 off) (eqb_tells q n)
  shows_stands None oa tells told d n = by_owed oa d ∙ sym (all_none (nat_lt n queues) refl)
    where
      all_none : (b : Bool) → nat_lt n queues ≡ b → left n ≡ 0
      all_none true is = tells n (ltb-true n queues is)
      all_none false is = past n (ltb-false n queues is)

      by_owed : (a : Option ℕ) (r : ℕ) → stands_in n (shown_place None a r) ≡ 0
      by_owed (Some k) zero = refl
      by_owed (Some k) (suc r) = refl
      by_owed None r = refl

  with_one : (a k : ℕ) → a < count → 1 ≤ has a → k < count → bit (a == k) ≡ has k
  with_one a k lt some k_lt = one_at a k (has k) (λ e. omega (arith, ap has e, some, once, at_most has count a lt)) (λ off. omega (arith, once, some, two_at_most has count a k lt k_lt off)) (eqb_tells a k)

  pub shows_with : (oq oa : Option ℕ) → Tells left queues oq → Tells has count oa → (d : ℕ) → d ≡ owed → (k : ℕ) → k < count → is_with lender k (shown_place oq oa d) ≡ has k
  shows_with (Some q) oa tells told d same k lt = sym (none_with q tells.0 tells.1 k lt)
  shows_with None None tells told d same k lt = sym (told k lt)
  shows_with None (Some a) tells told zero same k lt = with_one a k told.0 told.1 lt
  shows_with None (Some a) tells told (suc r) same k lt = with_one lender k there (lends (omega (arith, same))) lt

  pub shows_owed : (oq oa : Option ℕ) → Tells left queues oq → Tells has count oa → (d : ℕ) → d ≡ owed → receivers (shown_place oq oa d) ≡ d
  shows_owed (Some q) oa tells told zero same = refl
  shows_owed (Some q) oa tells told (suc r) same = absurd (omega (arith, lends (omega (arith, same)), none_with q tells.0 tells.1 lender there))
  shows_owed None None tells told zero same = refl
  shows_owed None None tells told (suc r) same = absurd (omega (arith, lends (omega (arith, same)), told lender there))
  shows_owed None (Some a) tells told zero same = refl
  shows_owed None (Some a) tells told (suc r) same = refl

  pub shows_among : (oq oa : Option ℕ) → Tells has count oa → (d : ℕ) → IsAmong count lender (shown_place oq oa d)
  shows_among (Some q) oa told d = tt
  shows_among None None told d = tt
  shows_among None (Some a) told zero = told.0
  shows_among None (Some a) told (suc r) = there

pub shows_some : (oq oa : Option ℕ) (d n : ℕ) → shown_place oq oa d ≡ Lent n → 1 ≤ n
shows_some (Some q) oa d n h = cc
shows_some None None d n h = cc
shows_some None (Some a) zero n h = cc
shows_some None (Some a) (suc r) n h = let e : suc r ≡ n = cc in omega (arith, e)

-- spots that are made in number
spots_at_one : (f : ℕ → ℕ) (make : ℕ → Spot) (spot : Spot) (k : ℕ) → spots_at spot (spots_below f make k) ≡ sum_below (λ n. when (is_spot (make n) spot) (f n)) k
spots_at_one f make spot zero = refl
spots_at_one f make spot (suc k) =
    let more : spots_at spot (replicate (f k) (make k)) ≡ when (is_spot (make k) spot) (f k) + 0 = ap (spots_at spot) (sym (append-nil (replicate (f k) (make k)))) ∙ replicate_at (f k) (make k) [] spot in
    omega (arith, sum_by-append (λ s. when (is_spot s spot) 1) (spots_below f make k) (replicate (f k) (make k)), spots_at_one f make spot k, more)

pub spots_length : (f : ℕ → ℕ) (make : ℕ → Spot) (k : ℕ) → length (spots_below f make k) ≡ sum_below f k
spots_length f make zero = refl
spots_length f make (suc k) = omega (arith, length-append (spots_below f make k) (replicate (f k) (make k)), length-replicate (f k) (make k), spots_length f make k)

below_zero : (f : ℕ → ℕ) (k : ℕ) → ((n : ℕ) → n < k → f n ≡ 0) → sum_below f k ≡ 0
below_zero f zero none = refl
below_zero f (suc k) none = omega (arith, below_zero f k (λ n lt. none n (omega (arith, lt))), none k (omega arith))

when_other : (f : ℕ → ℕ) (n q : ℕ) → n ≢ q → ((eqb n q ≡ true) × (n ≡ q)) ⊎ ((eqb n q ≡ false) × (n ≢ q)) → when (n == q) (f n) ≡ 0
when_other f n q off (inl h) = absurd (off h.1)
when_other f n q off (inr h) = ap (λ b. when b (f n)) h.0

-- of a sum, the term of one number
below_when : (f : ℕ → ℕ) (q k : ℕ) → (k ≤ q → f q ≡ 0) → sum_below (λ n. when (n == q) (f n)) k ≡ f q
below_when f q zero none = sym (none (omega arith))
below_when f q (suc k) none = when_by (eqb_tells k q) (λ off. below_when f q k (λ le. none (omega (arith, le, λ (e : k ≡ q). off e))))
  where
    when_by : ((eqb k q ≡ true) × (k ≡ q)) ⊎ ((eqb k q ≡ false) × (k ≢ q)) → (k ≢ q → sum_below (λ n. when (n == q) (f n)) k ≡ f q) → sum_below (λ n. when (n == q) (f n)) k + when (k == q) (f k) ≡ f q
    when_by (inl h) rest =
        let here : when (k == q) (f k) ≡ f q = ap (λ b. when b (f k)) h.0 ∙ ap f h.1 in
        let before : sum_below (λ n. when (n == q) (f n)) k ≡ 0 = below_zero (λ n. when (n == q) (f n)) k (λ n lt. when_other f n q (λ e. omega (arith, e, h.1, lt)) (eqb_tells n q)) in
        omega (arith, here, before)
    when_by (inr h) rest = omega (arith, rest h.1, when_other f k q h.1 (eqb_tells k q))

-- in a queue, and in a hand
pub queue_spots : (f : ℕ → ℕ) (q k : ℕ) → (k ≤ q → f q ≡ 0) → spots_at (InQueue q) (spots_below f InQueue k) ≡ f q
queue_spots f q k none = spots_at_one f InQueue (InQueue q) k ∙ below_when f q k none

pub hand_spots : (f : ℕ → ℕ) (q k : ℕ) → (k ≤ q → f q ≡ 0) → spots_at (InHand q) (spots_below f InHand k) ≡ f q
hand_spots f q k none = spots_at_one f InHand (InHand q) k ∙ below_when f q k none

pub no_queue_spots : (f : ℕ → ℕ) (q k : ℕ) → spots_at (InQueue q) (spots_below f InHand k) ≡ 0
no_queue_spots f q k = spots_at_one f InHand (InQueue q) k ∙ below_zero (λ n. 0) k (λ n lt. refl)

pub no_hand_spots : (f : ℕ → ℕ) (q k : ℕ) → spots_at (InHand q) (spots_below f InQueue k) ≡ 0
no_hand_spots f q k = spots_at_one f InQueue (InHand q) k ∙ below_zero (λ n. 0) k (λ n lt. refl)

-- a buffer that is left or with an actor has a place
pub shows_place : (left has : ℕ → ℕ) (queues count : ℕ) → 1 ≤ sum_below left queues + sum_below has count → (oq oa : Option ℕ) → Tells left queues oq → Tells has count oa → (d : ℕ) → shown_place oq oa d ≡ Nowhere → ⊥
shows_place left has queues count some (Some q) oa tells told d h = cc
shows_place left has queues count some None None tells told d h = omega (arith, some, below_zero left queues tells, below_zero has count told)
shows_place left has queues count some None (Some a) tells told zero h = cc
shows_place left has queues count some None (Some a) tells told (suc r) h = cc

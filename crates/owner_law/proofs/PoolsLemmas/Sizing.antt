use Rattle.std.proofs.Common.{◌≡◌, ◌≢◌, ◌⊎◌, ◌==◌, ◌+◌, ◌<◌, ◌≤◌, ℕ, zero, suc, Bool, true, false, cond, Some, List, [], ◌∷◌, All, length, slice_get, sum_by, count_by, refl, sym, ap, ◌∙◌, subst, arith, eq-eqb, inl, inr}
use Rattle.std.proofs.Math.Dec.{eqb}
use Rattle.std.proofs.lemmas.Bool.{cases_lt}
use Rattle.std.proofs.lemmas.Bool.Decides.{eqb_tells}
use Rattle.std.proofs.lemmas.List.Sums.{sum_by-cons}
use Rattle.std.proofs.lemmas.Option.{get_or_from_slice_get}
use Rattle.play_core.proofs.Lists.{some_is, there_is, there_below}
use Rattle.owner_law.specs.Things.{Buffer}
use Rattle.owner_law.specs.Keeping.{Keeper, at_start, start_table, AreDealt}
use Rattle.owner_law.specs.Census.{IsPool}
use Rattle.owner_law.specs.Pools.Lines.{HandWithin}
use Rattle.owner_law.specs.Pools.Places.{PoolAt, sizes_of, AreNumbered, numbers_from}
use Rattle.owner_law.specs.Pools.Spread.{AreSpread}
use Rattle.owner_law.proofs.Starts.{start_pools}
use Rattle.owner_law.proofs.Sums.{sum_none, sum_one}

-- what holds of the element at each place holds of all
pub all_from : {T : Type 0} (P : T → Type 0) (xs : List T) → ((k : ℕ) (x : T) → slice_get xs k ≡ Some x → P x) → All P xs
all_from P xs each k d lt =
    let x = there_is xs k lt in
    subst P (sym (get_or_from_slice_get xs k x.0 d x.1)) (each k x.0 x.1)

-- each pool's number tells how many buffers it has
pub size_there : (ps : List PoolAt) (i : ℕ) (p : PoolAt) → AreNumbered ps → slice_get ps i ≡ Some p → sizes_of ps p.number ≡ p.buffers
size_there [] i p apart at = cc
size_there (q ∷ ps) i p apart at = by (eqb_tells q.number p.number) i at (λ j j_at. size_there ps j p (λ a b x y a_at b_at same. suc_is (apart (suc a) (suc b) x y a_at b_at same)) j_at)
  where
    suc_is : {a b : ℕ} → suc a ≡ suc b → a ≡ b
    suc_is {a} {b} h = omega (arith, h)

    by : ((eqb q.number p.number ≡ true) × (q.number ≡ p.number)) ⊎ ((eqb q.number p.number ≡ false) × (q.number ≢ p.number)) → (j : ℕ) → slice_get (q ∷ ps) j ≡ Some p → ((h : ℕ) → slice_get ps h ≡ Some p → sizes_of ps p.number ≡ p.buffers) → cond (q.number == p.number) q.buffers (sizes_of ps p.number) ≡ p.buffers
    by (inl h) j j_at rest =
        let first : 0 ≡ j = apart 0 j q p refl j_at h.1 in
        let same : q ≡ p = some_is (ap (slice_get (q ∷ ps)) first ∙ j_at) in
        ap (λ t. cond t q.buffers (sizes_of ps p.number)) h.0 ∙ ap (λ (x : PoolAt). x.buffers) same
    by (inr h) zero j_at rest = absurd (h.1 (ap (λ (x : PoolAt). x.number) (some_is j_at)))
    by (inr h) (suc j) j_at rest = ap (λ t. cond t q.buffers (sizes_of ps p.number)) h.0 ∙ rest j j_at

-- a number is among numbers where it is one of them
pub number_there : (first count n : ℕ) → first ≤ n → n < first + count → 1 ≤ count_by (λ x. x == n) (numbers_from first count)
number_there first zero n le lt = absurd (omega (arith, le, lt))
number_there first (suc count) n le lt = by (eqb_tells first n) (λ off. number_there (first + 1) count n (omega (arith, le, off)) (omega (arith, lt)))
  where
    by : ((eqb first n ≡ true) × (first ≡ n)) ⊎ ((eqb first n ≡ false) × (first ≢ n)) → (first ≢ n → 1 ≤ count_by (λ x. x == n) (numbers_from (first + 1) count)) → 1 ≤ count_by (λ x. x == n) (numbers_from first (suc count))
    by (inl h) rest =
        let one : cond {A = ℕ} (first == n) 1 0 ≡ 1 = ap (λ b. cond {A = ℕ} b 1 0) h.0 in
        omega (arith, one, sum_by-cons (λ x. cond {A = ℕ} (x == n) 1 0) first (numbers_from (first + 1) count))
    by (inr h) rest = omega (arith, rest h.1, sum_by-cons (λ x. cond {A = ℕ} (x == n) 1 0) first (numbers_from (first + 1) count))

-- a number is among numbers at most once, and only where it is one of them
number_once : (first count n : ℕ) → count_by (λ x. x == n) (numbers_from first count) ≤ 1
number_once first zero n = omega arith
number_once first (suc count) n = by (eqb_tells first n) (number_once (first + 1) count n)
  where
    none : (a c : ℕ) → n < a → count_by (λ x. x == n) (numbers_from a c) ≡ 0
    none a zero lt = refl
    none a (suc c) lt =
        let off : cond {A = ℕ} (a == n) 1 0 ≡ 0 = ap (λ b. cond {A = ℕ} b 1 0) (eq_off (eqb_tells a n) (λ e. omega (arith, e, lt))) in
        omega (arith, off, sum_by-cons (λ x. cond {A = ℕ} (x == n) 1 0) a (numbers_from (a + 1) c), none (a + 1) c (omega (arith, lt)))
      where
        eq_off : ((eqb a n ≡ true) × (a ≡ n)) ⊎ ((eqb a n ≡ false) × (a ≢ n)) → (a ≡ n → ⊥) → (a == n) ≡ false
        eq_off (inl h) off = absurd (off h.1)
        eq_off (inr h) off = h.0

    by : ((eqb first n ≡ true) × (first ≡ n)) ⊎ ((eqb first n ≡ false) × (first ≢ n)) → count_by (λ x. x == n) (numbers_from (first + 1) count) ≤ 1 → count_by (λ x. x == n) (numbers_from first (suc count)) ≤ 1
    by (inl h) rest =
        let one : cond {A = ℕ} (first == n) 1 0 ≡ 1 = ap (λ b. cond {A = ℕ} b 1 0) h.0 in
        omega (arith, one, sum_by-cons (λ x. cond {A = ℕ} (x == n) 1 0) first (numbers_from (first + 1) count), none (first + 1) count (omega (arith, h.1)))
    by (inr h) rest =
        let off : cond {A = ℕ} (first == n) 1 0 ≡ 0 = ap (λ b. cond {A = ℕ} b 1 0) h.0 in
        omega (arith, off, rest, sum_by-cons (λ x. cond {A = ℕ} (x == n) 1 0) first (numbers_from (first + 1) count))

number_below : (first count k x : ℕ) → slice_get (numbers_from first count) k ≡ Some x → x < first + count
number_below first zero k x at = cc
number_below first (suc count) zero x at = omega (arith, some_is at)
number_below first (suc count) (suc k) x at = let rest = number_below (first + 1) count k x at in omega (arith, rest)

module _ (sizes owner : ℕ → ℕ) (keepers : List Keeper) (spread : AreSpread sizes owner keepers) where
  abbrev has : Buffer → Keeper → ℕ
  has b p = at_start p.hand b

  his : (b : Buffer) (k : ℕ) (p : Keeper) → slice_get keepers k ≡ Some p → owner b.pool ≡ k → at_start p.hand b ≡ count_by (λ x. x == b.no) (numbers_from 0 (sizes b.pool))
  his b k p at is = ap (count_by (λ x. x == b.no)) (spread k p at b.pool ∙ ap (λ t. cond t (numbers_from 0 (sizes b.pool)) []) (eq-eqb (owner b.pool) k is))

  not_his : (b : Buffer) (k : ℕ) (p : Keeper) → slice_get keepers k ≡ Some p → (k ≡ owner b.pool → ⊥) → at_start p.hand b ≡ 0
  not_his b k p at off = by (eqb_tells (owner b.pool) k)
    where
      by : ((eqb (owner b.pool) k ≡ true) × (owner b.pool ≡ k)) ⊎ ((eqb (owner b.pool) k ≡ false) × (owner b.pool ≢ k)) → at_start p.hand b ≡ 0
      by (inl h) = absurd (off (sym h.1))
      by (inr h) = ap (count_by (λ x. x == b.no)) (spread k p at b.pool ∙ ap (λ t. cond t (numbers_from 0 (sizes b.pool)) []) h.0)

  all_his : (b : Buffer) → owner b.pool < length keepers → sum_by (λ p. at_start p.hand b) keepers ≡ count_by (λ x. x == b.no) (numbers_from 0 (sizes b.pool))
  all_his b lt =
      let p = there_is keepers (owner b.pool) lt in
      sum_one (λ q. at_start q.hand b) (count_by (λ x. x == b.no) (numbers_from 0 (sizes b.pool))) keepers (owner b.pool) p.0 p.1 (his b (owner b.pool) p.0 p.1 refl) (λ k q at off. not_his b k q at off)

  pub spread_dealt : AreDealt keepers
  spread_dealt b = by (cases_lt (owner b.pool) (length keepers))
    where
      by : (owner b.pool < length keepers) ⊎ (length keepers ≤ owner b.pool) → sum_by (λ p. at_start p.hand b) keepers ≤ 1
      by (inl lt) = omega (arith, all_his b lt, number_once 0 (sizes b.pool) b.no)
      by (inr le) = omega (arith, sum_none (λ p. at_start p.hand b) keepers (λ k p at. not_his b k p at (λ e. omega (arith, e, le, there_below keepers k p at))))

  pub spread_pools : (pool : ℕ) → owner pool < length keepers → IsPool (start_table keepers) pool (sizes pool)
  spread_pools pool lt = start_pools keepers pool (sizes pool) (λ i i_lt. omega (arith, all_his (record { pool = pool; no = i }) lt, number_there 0 (sizes pool) i (omega arith) (omega (arith, i_lt))))

  pub spread_within : (k : ℕ) (p : Keeper) → slice_get keepers k ≡ Some p → HandWithin sizes p
  spread_within k p at pool = subst (All (λ i. i < sizes pool)) (sym (spread k p at pool)) (by (owner pool == k))
    where
      by : (t : Bool) → All (λ i. i < sizes pool) (cond t (numbers_from 0 (sizes pool)) [])
      by true = all_from (λ i. i < sizes pool) (numbers_from 0 (sizes pool)) (λ j x x_at. omega (arith, number_below 0 (sizes pool) j x x_at))
      by false = all_from (λ i. i < sizes pool) [] (λ j x x_at. cc)

use Rattle.std.proofs.Common.{◌≡◌, ◌⊎◌, ◌==◌, ◌+◌, ◌++◌, ◌<◌, ◌≤◌, ◌≢◌, ℕ, zero, suc, Bool, true, false, not, cond, Some, List, [], ◌∷◌, length, slice_get, count_by, refl, ap, ◌∙◌, arith, eq-eqb, inl, inr}
use Rattle.std.proofs.Math.Dec.{eqb}
use Rattle.std.proofs.lemmas.Bool.{cases_lt}
use Rattle.std.proofs.lemmas.Bool.Decides.{eqb_tells}
use Rattle.std.proofs.lemmas.List.Sums.{sum_by-cons}
use Rattle.cargo_core.specs.declared.item.Item.{Item}
use Rattle.cargo_core.specs.declared.item.Item.TheVariants as ItemOf
use Rattle.wire_core.specs.Bells.{bit}
use Rattle.wire_core.specs.Marks.{sum_below}
use Rattle.play_core.specs.Moved.{Moved}
use Rattle.play_core.proofs.Lists.{some_is}
use Rattle.owner_law.specs.Things.{Buffer, Window, buffer_at, buffer_of, names_in, is_named, times}
use Rattle.owner_law.specs.Keeping.{at_start}
use Rattle.owner_law.proofs.Counting.{below_plus, below_same, below_one}
use Rattle.owner_law.proofs.Sums.{sum_none}
use Rattle.owner_law.specs.Pools.Places.{PoolAt, numbers_from, pool_hand}
use Rattle.net_law.specs.Owners.Lending.{Borrower, Lender, names_where, frames_taken, leases_due}
use Rattle.net_law.proofs.OwnersLemmas.Clients.{at_address}
use Rattle.owner_law.proofs.PoolsLemmas.Sizing.{number_there}
use Rattle.net_law.proofs.RxOwners.Virtualisers.{where_few}
use Rattle.net_law.specs.Parts.Rows.{IsIn, AreIn}

-- of a list with one element more, an element
pub get_snoc : {X : Type 0} (xs : List X) (x y : X) (k : ℕ) → slice_get (xs ++ x ∷ []) k ≡ Some y → (slice_get xs k ≡ Some y) ⊎ ((k ≡ length xs) × (x ≡ y))
get_snoc [] x y zero at = inr (refl, some_is at)
get_snoc [] x y (suc k) at = cc
get_snoc (z ∷ xs) x y zero at = inl at
get_snoc (z ∷ xs) x y (suc k) at = by (get_snoc xs x y k at)
  where
    by : (slice_get xs k ≡ Some y) ⊎ ((k ≡ length xs) × (x ≡ y)) → (slice_get xs k ≡ Some y) ⊎ ((suc k ≡ length (z ∷ xs)) × (x ≡ y))
    by (inl h) = inl h
    by (inr h) = inr (omega (arith, h.0), h.1)

-- sums over numbers

pub below_less : (f g : ℕ → ℕ) (k : ℕ) → sum_below f k < sum_below g k → (n : ℕ) × (n < k) × (f n < g n)
below_less f g zero lt = absurd (omega (arith, lt))
below_less f g (suc k) lt = by (cases_lt (f k) (g k)) (below_less f g k)
  where
    by : (f k < g k) ⊎ (g k ≤ f k) → (sum_below f k < sum_below g k → (n : ℕ) × (n < k) × (f n < g n)) → (n : ℕ) × (n < suc k) × (f n < g n)
    by (inl less) rest = (k, omega arith, less)
    by (inr more) rest = let x = rest (omega (arith, lt, more)) in (x.0, omega (arith, x.1), x.2)

pub below_few : (f g : ℕ → ℕ) (k : ℕ) → ((n : ℕ) → n < k → f n ≤ g n) → sum_below f k ≤ sum_below g k
below_few f g zero few = omega arith
below_few f g (suc k) few = omega (arith, few k (omega arith), below_few f g k (λ n lt. few n (omega (arith, lt))))

pub below_more : (f : ℕ → ℕ) (k : ℕ) → sum_below (λ n. 1 + f n) k ≡ k + sum_below f k
below_more f zero = omega arith
below_more f (suc k) = omega (arith, below_more f k)

pub below_rest : (t : ℕ → Bool) (k : ℕ) → sum_below (λ n. bit (t n)) k + sum_below (λ n. bit (not (t n))) k ≡ k
below_rest t zero = omega arith
below_rest t (suc k) = omega (arith, below_rest t k, by (t k))
  where
    by : (b : Bool) → bit b + bit (not b) ≡ 1
    by true = omega arith
    by false = omega arith

pub bit_few : (b : Bool) → bit b ≤ 1
bit_few true = omega arith
bit_few false = omega arith

-- a pool's buffer of a number
abbrev pub numbered : (pool n : ℕ) → Buffer
numbered pool n = record { pool = pool; no = n }

pub named_self : (pool n : ℕ) → is_named (numbered pool n) (Some (numbered pool n)) ≡ 1
named_self pool n = rw (eq-eqb pool pool refl, eq-eqb n n refl) refl

pub named_other : (pool k n : ℕ) → k ≢ n → is_named (numbered pool n) (Some (numbered pool k)) ≡ 0
named_other pool k n off = by (eqb_tells k n)
  where
    by : ((eqb k n ≡ true) × (k ≡ n)) ⊎ ((eqb k n ≡ false) × (k ≢ n)) → is_named (numbered pool n) (Some (numbered pool k)) ≡ 0
    by (inl h) = absurd (off h.1)
    by (inr h) = rw (eq-eqb pool pool refl, h.0) refl

module _ (w : Window) (some : 0 < w.size) where
  -- the buffer that an item names
  pub buffer_is : (item : Item) (n : ℕ) → (at : IsIn w item) → at.number ≡ n → buffer_of (w ∷ []) item ≡ Some (numbered w.pool n)
  buffer_is (ItemOf.Net d) n at same = ap (buffer_at (w ∷ [])) at.begins ∙ (at_address w at.number some at.few ∙ ap (λ k. Some (numbered w.pool k)) same)
  buffer_is (ItemOf.Byte b) n at same = let e = at.net in cc
  buffer_is (ItemOf.Req r) n at same = let e = at.net in cc
  buffer_is (ItemOf.Resp r) n at same = let e = at.net in cc

  -- each item counts once
  pub count_in : (items : List Item) → AreIn w items → sum_below (λ n. times (numbered w.pool n) (names_in (w ∷ []) items)) w.buffers ≡ length items
  count_in [] within = none w.buffers
    where
      none : (k : ℕ) → sum_below (λ n. 0) k ≡ 0
      none zero = refl
      none (suc k) = omega (arith, none k)
  count_in (item ∷ items) within =
      let at = within 0 item refl in
      let first = below_one (λ n. is_named (numbered w.pool n) (buffer_of (w ∷ []) item)) w.buffers at.number 1 at.few
      (ap (is_named (numbered w.pool at.number)) (buffer_is item at.number at refl) ∙ named_self w.pool at.number)
      (λ n off. ap (is_named (numbered w.pool n)) (buffer_is item at.number at refl) ∙ named_other w.pool at.number n off) in
      let parts = below_same (λ n. times (numbered w.pool n) (names_in (w ∷ []) (item ∷ items))) (λ n. is_named (numbered w.pool n) (buffer_of (w ∷ []) item) + times (numbered w.pool n) (names_in (w ∷ []) items)) w.buffers (λ n lt. sum_by-cons (is_named (numbered w.pool n)) (buffer_of (w ∷ []) item) (names_in (w ∷ []) items)) in
      let both = below_plus (λ n. is_named (numbered w.pool n) (buffer_of (w ∷ []) item)) (λ n. times (numbered w.pool n) (names_in (w ∷ []) items)) w.buffers in
      omega (arith, first, parts, both, count_in items (λ k x is. within (suc k) x is))

-- items that don't name a buffer
pub times_none : (ws : List Window) (b : Buffer) (items : List Item) → ((k : ℕ) (item : Item) → slice_get items k ≡ Some item → is_named b (buffer_of ws item) ≡ 0) → times b (names_in ws items) ≡ 0
times_none ws b [] none = refl
times_none ws b (item ∷ items) none = omega (arith, sum_by-cons (is_named b) (buffer_of ws item) (names_in ws items), none 0 item refl, times_none ws b items (λ k x at. none (suc k) x at))

pub times_snoc : (ws : List Window) (b : Buffer) (items : List Item) (item : Item) → times b (names_in ws (items ++ item ∷ [])) ≡ times b (names_in ws items) + is_named b (buffer_of ws item)
times_snoc ws b [] item = omega (arith, sum_by-cons (is_named b) (buffer_of ws item) [])
times_snoc ws b (x ∷ items) item = omega (arith, sum_by-cons (is_named b) (buffer_of ws x) (names_in ws (items ++ item ∷ [])), sum_by-cons (is_named b) (buffer_of ws x) (names_in ws items), times_snoc ws b items item)

-- what is at the start in a pool's hand
number_none : (first count n : ℕ) → n < first → count_by (λ x. x == n) (numbers_from first count) ≡ 0
number_none first zero n lt = refl
number_none first (suc count) n lt = by (eqb_tells first n) (number_none (first + 1) count n (omega (arith, lt)))
  where
    by : ((eqb first n ≡ true) × (first ≡ n)) ⊎ ((eqb first n ≡ false) × (first ≢ n)) → count_by (λ x. x == n) (numbers_from (first + 1) count) ≡ 0 → count_by (λ x. x == n) (numbers_from first (suc count)) ≡ 0
    by (inl h) rest = absurd (omega (arith, lt, h.1))
    by (inr h) rest =
        let none : cond {A = ℕ} (first == n) 1 0 ≡ 0 = ap (λ b. cond {A = ℕ} b 1 0) h.0 in
        omega (arith, none, sum_by-cons (λ x. cond {A = ℕ} (x == n) 1 0) first (numbers_from (first + 1) count), rest)

number_once : (first count n : ℕ) → count_by (λ x. x == n) (numbers_from first count) ≤ 1
number_once first zero n = omega arith
number_once first (suc count) n = by (eqb_tells first n) (number_once (first + 1) count n)
  where
    by : ((eqb first n ≡ true) × (first ≡ n)) ⊎ ((eqb first n ≡ false) × (first ≢ n)) → count_by (λ x. x == n) (numbers_from (first + 1) count) ≤ 1 → count_by (λ x. x == n) (numbers_from first (suc count)) ≤ 1
    by (inl h) rest =
        let one : cond {A = ℕ} (first == n) 1 0 ≡ 1 = ap (λ b. cond {A = ℕ} b 1 0) h.0 in
        omega (arith, one, sum_by-cons (λ x. cond {A = ℕ} (x == n) 1 0) first (numbers_from (first + 1) count), number_none (first + 1) count n (omega (arith, h.1)))
    by (inr h) rest =
        let none : cond {A = ℕ} (first == n) 1 0 ≡ 0 = ap (λ b. cond {A = ℕ} b 1 0) h.0 in
        omega (arith, none, sum_by-cons (λ x. cond {A = ℕ} (x == n) 1 0) first (numbers_from (first + 1) count), rest)

pub start_some : (pool : PoolAt) (n : ℕ) → n < pool.buffers → 1 ≤ at_start (pool_hand pool) (numbered pool.number n)
start_some pool n lt = rw (eq-eqb pool.number pool.number refl) (number_there 0 pool.buffers n (omega arith) (omega (arith, lt)))

pub start_few : (pool : PoolAt) (n : ℕ) → at_start (pool_hand pool) (numbered pool.number n) ≤ 1
start_few pool n = rw (eq-eqb pool.number pool.number refl) (number_once 0 pool.buffers n)

-- no lease is due of a buffer in which no frame came
pub due_none : (ws : List Window) (l : Lender) (m : Moved) (b : Buffer) → times b (frames_taken ws l m) ≡ 0 → leases_due ws l m b ≡ 0
due_none ws l m b none = sum_none (λ (c : Borrower). times b (names_where c.is_for 0 (frames_taken ws l m))) l.clients (λ k c at. zero_of (times b (names_where c.is_for 0 (frames_taken ws l m))) (omega (arith, where_few b c.is_for 0 (frames_taken ws l m), none)))
  where
    zero_of : (n : ℕ) → n ≤ 0 → n ≡ 0
    zero_of n le = omega (arith, le)

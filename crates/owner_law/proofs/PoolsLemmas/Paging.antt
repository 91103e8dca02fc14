use Rattle.std.proofs.Common.{◌≡◌, ◌≢◌, ◌⊎◌, ◌==◌, ◌&&◌, ◌+◌, ◌*◌, ◌<◌, ◌≤◌, ℕ, suc, Bool, true, false, cond, nat_lt, Option, Some, None, List, [], ◌∷◌, All, length, slice_get, sum_by, count_by, refl, sym, ap, ◌∙◌, subst, arith, ltb-true, eq-eqb, inl, inr}
use Rattle.std.proofs.Math.Dec.{eqb}
use Rattle.std.proofs.lemmas.Bool.Decides.{eqb_tells}
use Rattle.std.proofs.lemmas.List.Sums.{sum_by-cons}
use Rattle.cargo_core.specs.declared.item.Item.{Item}
use Rattle.cargo_core.specs.declared.item.PoolId.{PoolId}
use Rattle.cargo_core.specs.declared.item.Body.{Body}
use Rattle.cargo_core.specs.declared.item.Body.TheVariants as Carried
use Rattle.cargo_core.specs.Bodies.{buffers_in, buffers_of}
use Rattle.wire_core.specs.Bells.{bit}
use Rattle.wire_core.specs.Deeds.{Cargo}
use Rattle.wire_core.specs.Marks.{sum_below}
use Rattle.wire_core.specs.Queues.{items_of}
use Rattle.turn_kit.specs.Hands.{bodies_of}
use Rattle.turn_kit.proofs.Holding.{cargo-cons}
use Rattle.play_core.specs.Moved.{Moved}
use Rattle.owner_law.specs.Things.{Buffer, is_same, Window, Names, NoBuffers, Buffers, Frames, Leases, Returns, Answers, Naming, Thing, Nothing, Whole, Frame, Lease, Return, thing_of, thing_at, things_from, requests_of, buffer_at, buffer_of, begins_at, number_at, requested, as_buffer}
use Rattle.owner_law.specs.Pages.{as_page}
use Rattle.owner_law.specs.Census.{buffers_among}
use Rattle.owner_law.proofs.Sums.{both, same_is}
use Rattle.owner_law.proofs.Counting.{below_plus, below_same, below_none, below_one}
use Rattle.owner_law.proofs.Carrying.{pages_named}
use Rattle.owner_law.specs.Pools.Handing.{AllCarry}
use Rattle.owner_law.specs.Pools.Lines.{IsWithin, NamesWithin}

all_head : {T : Type 0} (P : T → Type 0) (x : T) (xs : List T) → All P (x ∷ xs) → P x
all_head P x xs all = all 0 x (omega arith)

all_tail : {T : Type 0} (P : T → Type 0) (x : T) (xs : List T) → All P (x ∷ xs) → All P xs
all_tail P x xs all = λ k d lt. all (suc k) d (omega (arith, lt))

-- a buffer that is named is one of its pool's own
module _ (sizes : ℕ → ℕ) where
  at_within : (ws : List Window) (address : ℕ) (c : Buffer) → All (IsWithin sizes) ws → buffer_at ws address ≡ Some c → c.no < sizes c.pool
  at_within [] address c all is = cc
  at_within (w ∷ ws) address c all is = by (begins_at w address) refl (at_within ws address c (all_tail (IsWithin sizes) w ws all))
    where
      by : (b : Bool) → begins_at w address ≡ b → (buffer_at ws address ≡ Some c → c.no < sizes c.pool) → c.no < sizes c.pool
      by true its rest =
          let number : nat_lt (number_at w address) w.buffers ≡ true = (both (nat_lt (number_at w address) w.buffers) (w.base + number_at w address * w.size == address) its).0 in
          let first : buffer_at (w ∷ ws) address ≡ Some (record { pool = w.pool; no = number_at w address }) = ap (λ x. cond x (Some (record { pool = w.pool; no = number_at w address })) (buffer_at ws address)) its in
          let same : c ≡ record { pool = w.pool; no = number_at w address } = Rattle.play_core.proofs.Lists.some_is (sym is ∙ first) in
          let mine : w.buffers ≤ sizes w.pool = all_head (IsWithin sizes) w ws all in
          subst (λ (d : Buffer). d.no < sizes d.pool) (sym same) (omega (arith, ltb-true (number_at w address) w.buffers number, mine))
      by false off rest =
          let there : buffer_at (w ∷ ws) address ≡ buffer_at ws address = ap (λ x. cond x (Some (record { pool = w.pool; no = number_at w address })) (buffer_at ws address)) off in
          rest (sym there ∙ is)

  of_within : (ws : List Window) (item : Item) (c : Buffer) → All (IsWithin sizes) ws → buffer_of ws item ≡ Some c → c.no < sizes c.pool
  of_within ws item c all is = by (Rattle.owner_law.specs.Things.address_of item) is
    where
      by : (o : Option ℕ) → Rattle.std.specs.Option.option_and_then (buffer_at ws) o ≡ Some c → c.no < sizes c.pool
      by None h = cc
      by (Some a) h = at_within ws a c all h

  -- of a thing that is the buffer itself
  thing_within : (b : Buffer) (make : Buffer → Thing) → ((c : Buffer) → as_buffer b (make c) ≡ bit (is_same c b)) → (o : Option Buffer) → ((c : Buffer) → o ≡ Some c → c.no < sizes c.pool) → as_buffer b (thing_of make o) ≡ 1 → b.no < sizes b.pool
  thing_within b make is None small one = cc
  thing_within b make is (Some c) small one = by (is_same c b) refl
    where
      by : (s : Bool) → is_same c b ≡ s → b.no < sizes b.pool
      by true its = subst (λ (d : Buffer). d.no < sizes d.pool) (same_is c b its) (small c refl)
      by false off = absurd (omega (arith, one, is c, ap bit off))

  none_made : (b : Buffer) (make : Buffer → Thing) → ((c : Buffer) → as_buffer b (make c) ≡ 0) → (o : Option Buffer) → as_buffer b (thing_of make o) ≡ 0
  none_made b make none None = refl
  none_made b make none (Some c) = none c

  asked_within : (ws : List Window) (o : Option Item) (c : Buffer) → All (IsWithin sizes) ws → Rattle.std.specs.Option.option_and_then (buffer_of ws) o ≡ Some c → c.no < sizes c.pool
  asked_within ws None c all is = cc
  asked_within ws (Some i) c all is = of_within ws i c all is

  pub named_within : (b : Buffer) (names : Names) (rs : List Item) (k : ℕ) (item : Item) → NamesWithin sizes names → as_buffer b (thing_at names rs k item) ≡ 1 → b.no < sizes b.pool
  named_within b NoBuffers rs k item all one = cc
  named_within b (Buffers ws) rs k item all one = thing_within b Whole (λ c. refl) (buffer_of ws item) (λ c is. of_within ws item c all is) one
  named_within b (Frames ws receivers) rs k item all one = thing_within b (λ c. Frame c (receivers k)) (λ c. refl) (buffer_of ws item) (λ c is. of_within ws item c all is) one
  named_within b (Leases ws) rs k item all one = absurd (omega (arith, one, none_made b Lease (λ c. refl) (buffer_of ws item)))
  named_within b (Returns ws) rs k item all one = absurd (omega (arith, one, none_made b Return (λ c. refl) (buffer_of ws item)))
  named_within b (Answers q ws) rs k item all one = thing_within b Whole (λ c. refl) (requested ws rs k) (λ c is. asked_within ws (slice_get rs k) c all is) one

abbrev pub buffer : (pool i : ℕ) → Buffer
buffer pool i = record { pool = pool; no = i }

-- a body is as many buffers of a pool as it is pages of its first buffers, among which it is
body_pages : (pool : PoolId) (count : ℕ) (body : Body) → ((b : Buffer) → as_page b body ≡ 1 → b.pool ≡ pool.0 → b.no < count) → buffers_in pool body ≡ sum_below (λ i. as_page (buffer pool.0 i) body) count
body_pages pool count Carried.Empty small = sym (below_none (λ i. 0) count (λ n lt. refl))
body_pages pool count (Carried.Lease lease) small = sym (below_none (λ i. 0) count (λ n lt. refl))
body_pages pool count (Carried.Page page) small = by (eqb_tells page.pool.0 pool.0)
  where
    by : ((eqb page.pool.0 pool.0 ≡ true) × (page.pool.0 ≡ pool.0)) ⊎ ((eqb page.pool.0 pool.0 ≡ false) × (page.pool.0 ≢ pool.0)) → cond {A = ℕ} (page.pool.0 == pool.0) 1 0 ≡ sum_below (λ i. bit ((page.pool.0 == pool.0) && (page.no == i))) count
    by (inl h) =
        let mine : bit ((page.pool.0 == pool.0) && (page.no == page.no)) ≡ 1 = rw (h.0, eq-eqb page.no page.no refl) refl in
        let lt : page.no < count = small (buffer pool.0 page.no) mine refl in
        let one : cond {A = ℕ} (page.pool.0 == pool.0) 1 0 ≡ 1 = ap (λ x. cond {A = ℕ} x 1 0) h.0 in
        one ∙ sym (below_one (λ i. bit ((page.pool.0 == pool.0) && (page.no == i))) count page.no 1 lt mine (λ n off. other n off (eqb_tells page.no n)))
      where
        other : (n : ℕ) → (page.no ≡ n → ⊥) → ((eqb page.no n ≡ true) × (page.no ≡ n)) ⊎ ((eqb page.no n ≡ false) × (page.no ≢ n)) → bit ((page.pool.0 == pool.0) && (page.no == n)) ≡ 0
        other n off (inl e) = absurd (off e.1)
        other n off (inr e) = rw (h.0, e.0) refl
    by (inr h) =
        let none : cond {A = ℕ} (page.pool.0 == pool.0) 1 0 ≡ 0 = ap (λ x. cond {A = ℕ} x 1 0) h.0 in
        none ∙ sym (below_none (λ i. bit ((page.pool.0 == pool.0) && (page.no == i))) count (λ n lt. ap (λ x. bit (x && (page.no == n))) h.0))

-- so of entries
pub list_pages : (pool : PoolId) (count : ℕ) (cs : List Cargo) → ((k : ℕ) (c : Cargo) → slice_get cs k ≡ Some c → (b : Buffer) → as_page b c.1 ≡ 1 → b.pool ≡ pool.0 → b.no < count) → buffers_of pool (bodies_of cs) ≡ sum_below (λ i. sum_by (λ (c : Cargo). as_page (buffer pool.0 i) c.1) cs) count
list_pages pool count [] small = sym (below_none (λ i. 0) count (λ n lt. refl))
list_pages pool count (c ∷ cs) small =
    let each = below_same (λ i. sum_by (λ (d : Cargo). as_page (buffer pool.0 i) d.1) (c ∷ cs)) (λ i. as_page (buffer pool.0 i) c.1 + sum_by (λ (d : Cargo). as_page (buffer pool.0 i) d.1) cs) count (λ n lt. sum_by-cons (λ (d : Cargo). as_page (buffer pool.0 n) d.1) c cs) in
    omega (
      arith,
      cargo-cons pool c cs,
      body_pages pool count c.1 (small 0 c refl),
      list_pages pool count cs (λ k d at. small (suc k) d at),
      each,
      below_plus (λ i. as_page (buffer pool.0 i) c.1) (λ i. sum_by (λ (d : Cargo). as_page (buffer pool.0 i) d.1) cs) count,
    )

-- entries that carry what they name are as many buffers of a pool as their items carry
module _ (naming : Naming) (sizes : ℕ → ℕ) (m : Moved) (n : ℕ) (within : NamesWithin sizes (naming n)) where
  pub small_of : (cs : List Cargo) → AllCarry naming m n cs → (pool : PoolId) → (k : ℕ) (c : Cargo) → slice_get cs k ≡ Some c → (b : Buffer) → as_page b c.1 ≡ 1 → b.pool ≡ pool.0 → b.no < sizes pool.0
  small_of cs carry pool k c at b one same = subst (λ p. b.no < sizes p) same (named_within sizes b (naming n) (requests_of (naming n) m) k c.0 within (sym (carry k c at b) ∙ one))

  pub carried_among : (cs : List Cargo) → AllCarry naming m n cs → (pool : PoolId) → buffers_among pool.0 (sizes pool.0) (things_from (naming n) (requests_of (naming n) m) 0 (items_of cs)) ≡ buffers_of pool (bodies_of cs)
  carried_among cs carry pool =
      below_same (λ i. sum_by (as_buffer (buffer pool.0 i)) (things_from (naming n) (requests_of (naming n) m) 0 (items_of cs))) (λ i. sum_by (λ (c : Cargo). as_page (buffer pool.0 i) c.1) cs) (sizes pool.0) (λ i lt. sym (pages_named (buffer pool.0 i) (naming n) (requests_of (naming n) m) 0 cs (λ j c at. carry j c at (buffer pool.0 i) ∙ ap (λ k. as_buffer (buffer pool.0 i) (thing_at (naming n) (requests_of (naming n) m) k c.0)) (plus j))))
      ∙ sym (list_pages pool (sizes pool.0) cs (small_of cs carry pool))
    where
      plus : (i : ℕ) → i ≡ 0 + i
      plus i = omega arith

-- numbers of a hand at the start
pub start_many : (pool count : ℕ) (xs : List ℕ) → All (λ i. i < count) xs → sum_below (λ i. count_by (λ x. x == i) xs) count ≡ length xs
start_many pool count [] all = below_none (λ i. 0) count (λ n lt. refl)
start_many pool count (x ∷ xs) all =
    let each = below_same (λ i. count_by (λ y. y == i) (x ∷ xs)) (λ i. cond {A = ℕ} (x == i) 1 0 + count_by (λ y. y == i) xs) count (λ n lt. sum_by-cons (λ y. cond {A = ℕ} (y == n) 1 0) x xs) in
    let one : sum_below (λ i. cond {A = ℕ} (x == i) 1 0) count ≡ 1 = below_one (λ i. cond {A = ℕ} (x == i) 1 0) count x 1 (all_head (λ i. i < count) x xs all) (ap (λ b. cond {A = ℕ} b 1 0) (eq-eqb x x refl)) (λ n off. other n off (eqb_tells x n)) in
    omega (arith, each, one, below_plus (λ i. cond {A = ℕ} (x == i) 1 0) (λ i. count_by (λ y. y == i) xs) count, start_many pool count xs (all_tail (λ i. i < count) x xs all))
  where
    other : (n : ℕ) → (x ≡ n → ⊥) → ((eqb x n ≡ true) × (x ≡ n)) ⊎ ((eqb x n ≡ false) × (x ≢ n)) → cond {A = ℕ} (x == n) 1 0 ≡ 0
    other n off (inl e) = absurd (off e.1)
    other n off (inr e) = ap (λ b. cond {A = ℕ} b 1 0) e.0

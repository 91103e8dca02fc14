use Rattle.std.proofs.Common.{◌≡◌, ◌⊎◌, ◌+◌, ◌<◌, ◌≤◌, ℕ, zero, suc, Bool, true, false, nat_lt, Option, Some, None, List, [], ◌∷◌, ◌++◌, length, map, slice_get, sum_by, refl, sym, ap, ◌∙◌, arith, lt-ltb, le-ltb, inl, inr}
use Rattle.std.proofs.lemmas.Bool.{cases_lt}
use Rattle.std.proofs.lemmas.List.{length-map}
use Rattle.std.proofs.lemmas.List.Sums.{sum_by-cons, sum_by-append}
use Rattle.cargo_core.specs.declared.item.Item.{Item}
use Rattle.cargo_core.specs.declared.item.PoolId.{PoolId}
use Rattle.cargo_core.specs.Bodies.{buffers_of}
use Rattle.wire_core.specs.declared.names.QueueRow.{QueueRow}
use Rattle.wire_core.specs.Bells.{bit}
use Rattle.wire_core.specs.Deeds.{Cargo}
use Rattle.wire_core.specs.Ends.{Role, Consumer, Producer}
use Rattle.wire_core.specs.Journal.{Hostiles, owner_of}
use Rattle.wire_core.specs.Lists.{Passed}
use Rattle.wire_core.specs.Marks.{sum_below}
use Rattle.wire_core.specs.Queues.{Queue, queue_at}
use Rattle.turn_kit.specs.Hands.{bodies_of}
use Rattle.turn_kit.proofs.Holding.{buffers-append}
use Rattle.play_core.specs.Moved.{Moved, Seat}
use Rattle.play_core.proofs.Lists.{map_get, there_is, there_below}
use Rattle.owner_law.specs.Things.{Buffer, Names, NoBuffers, Buffers, Frames, Leases, Returns, Answers, Naming, Thing, Whole, Lease, thing_of, thing_at, things_from, requests_of, buffer_of, requested, things_sent, things_taken, as_buffer, lends, gives_back}
use Rattle.owner_law.specs.Owners.{Place, Nowhere, At, Lent, Table, receivers, AreCounted}
use Rattle.owner_law.specs.Keeping.{Keeper, things_in, things_out, all_taken, all_put, is_out, stands_in, IsAmong, is_lending, IsShownBy, IsNaming, AreKeepers}
use Rattle.owner_law.specs.Pages.{CarryPages}
use Rattle.owner_law.specs.Census.{census, is_lent, buffers_among, buffers_at_start}
use Rattle.owner_law.proofs.Sums.{sum_flat, sum_none, sum_one}
use Rattle.owner_law.proofs.Counting.{below_plus, below_same, below_none, census_queues, census_hands, queue_has}
use Rattle.owner_law.proofs.Carrying.{get_first}
use Rattle.owner_law.specs.Pools.Handing.{AllCarry}
use Rattle.owner_law.specs.Pools.Lines.{Holder, keepers_of, bodies_in, bodies_out, came, went, lent_by, HandWithin, NamesWithin, HoldsIts}
use Rattle.owner_law.proofs.PoolsLemmas.Paging.{buffer, carried_among, start_many}

-- sums
sum_mapped : {X Y : Type 0} (f : Y → ℕ) (g : X → Y) (xs : List X) → sum_by f (map g xs) ≡ sum_by (λ x. f (g x)) xs
sum_mapped f g [] = refl
sum_mapped f g (x ∷ xs) = omega (arith, sum_by-cons f (g x) (map g xs), sum_by-cons (λ y. f (g y)) x xs, sum_mapped f g xs)

sums_alike : {X : Type 0} (f g : X → ℕ) (xs : List X) → ((k : ℕ) (x : X) → slice_get xs k ≡ Some x → f x ≡ g x) → sum_by f xs ≡ sum_by g xs
sums_alike f g [] each = refl
sums_alike f g (x ∷ xs) each = omega (arith, sum_by-cons f x xs, sum_by-cons g x xs, each 0 x refl, sums_alike f g xs (λ k y at. each (suc k) y at))

sums_plus : {X : Type 0} (f g : X → ℕ) (xs : List X) → sum_by (λ x. f x + g x) xs ≡ sum_by f xs + sum_by g xs
sums_plus f g [] = refl
sums_plus f g (x ∷ xs) = omega (arith, sum_by-cons (λ y. f y + g y) x xs, sum_by-cons f x xs, sum_by-cons g x xs, sums_plus f g xs)

sums_swap : {X : Type 0} (f : X → ℕ → ℕ) (count : ℕ) (xs : List X) → sum_by (λ x. sum_below (f x) count) xs ≡ sum_below (λ i. sum_by (λ x. f x i) xs) count
sums_swap f count [] = sym (below_none (λ i. 0) count (λ n lt. refl))
sums_swap f count (x ∷ xs) = omega (arith, sum_by-cons (λ y. sum_below (f y) count) x xs, sums_swap f count xs, below_plus (f x) (λ i. sum_by (λ y. f y i) xs) count, below_same (λ i. sum_by (λ y. f y i) (x ∷ xs)) (λ i. f x i + sum_by (λ y. f y i) xs) count (λ n lt. sum_by-cons (λ y. f y n) x xs))

below_first : (f : ℕ → ℕ) (k : ℕ) → sum_below f (suc k) ≡ f 0 + sum_below (λ n. f (suc n)) k
below_first f zero = omega arith
below_first f (suc k) = omega (arith, below_first f k)

-- over all queues, by their numbers or in a list
queues_sum : (f : Queue → ℕ) (world : List Queue) → sum_below (λ n. f (queue_at world n)) (length world) ≡ sum_by f world
queues_sum f [] = refl
queues_sum f (q ∷ world) = omega (arith, below_first (λ n. f (queue_at (q ∷ world) n)) (length world), queues_sum f world, sum_by-cons f q world)

-- of two lists together
among_append : (pool count : ℕ) (xs ys : List Thing) → buffers_among pool count (xs ++ ys) ≡ buffers_among pool count xs + buffers_among pool count ys
among_append pool count xs ys =
    below_same (λ i. sum_by (as_buffer (buffer pool i)) (xs ++ ys)) (λ i. sum_by (as_buffer (buffer pool i)) xs + sum_by (as_buffer (buffer pool i)) ys) count (λ i lt. sum_by-append (as_buffer (buffer pool i)) xs ys)
    ∙ below_plus (λ i. sum_by (as_buffer (buffer pool i)) xs) (λ i. sum_by (as_buffer (buffer pool i)) ys) count

among_none : (pool count : ℕ) → buffers_among pool count [] ≡ 0
among_none pool count = below_none (λ i. 0) count (λ n lt. refl)

-- items that are not lent where they are taken
lends_none : (b : Buffer) (names : Names) → is_lending names ≡ false → (rs : List Item) (k : ℕ) (i : Item) → lends b (thing_at names rs k i) ≡ 0
lends_none b NoBuffers no_lease rs k i = refl
lends_none b (Buffers ws) no_lease rs k i = by (buffer_of ws i)
  where
    by : (o : Option Buffer) → lends b (thing_of Whole o) ≡ 0
    by None = refl
    by (Some c) = refl
lends_none b (Frames ws receivers_) no_lease rs k i = cc
lends_none b (Leases ws) no_lease rs k i = by (buffer_of ws i)
  where
    by : (o : Option Buffer) → lends b (thing_of Lease o) ≡ 0
    by None = refl
    by (Some c) = refl
lends_none b (Returns ws) no_lease rs k i = cc
lends_none b (Answers q ws) no_lease rs k i = by (requested ws rs k)
  where
    by : (o : Option Buffer) → lends b (thing_of Whole o) ≡ 0
    by None = refl
    by (Some c) = refl

none_lent : (b : Buffer) (names : Names) → is_lending names ≡ false → (rs : List Item) (k : ℕ) (items : List Item) → sum_by (lends b) (things_from names rs k items) ≡ 0
none_lent b names no_lease rs k [] = refl
none_lent b names no_lease rs k (i ∷ items) = omega (arith, sum_by-cons (lends b) (thing_at names rs k i) (things_from names rs (k + 1) items), lends_none b names no_lease rs k i, none_lent b names no_lease rs (k + 1) items)

-- an actor at none of whose inputs buffers are lent
abbrev pub LendsNone : Naming → List Seat → Type 0
LendsNone naming ends = (i : ℕ) (s : Seat) → slice_get ends i ≡ Some s → s.role ≡ Consumer → is_lending (naming s.queue) ≡ false

module _ (naming : Naming) (m : Moved) where
  end_lends : (b : Buffer) (r : Role) (n : ℕ) → (r ≡ Consumer → is_lending (naming n) ≡ false) → sum_by (lends b) (things_in naming m (record { queue = n; role = r })) ≡ 0
  end_lends b Producer n not_lending = refl
  end_lends b Consumer n not_lending = none_lent b (naming n) (not_lending refl) (requests_of (naming n) m) 0 (m.taken n)

  lends_away : (b : Buffer) (ends : List Seat) → LendsNone naming ends → sum_by (lends b) (all_taken naming m ends) ≡ 0
  lends_away b ends not_lending = sum_flat (lends b) (things_in naming m) ends ∙ sum_none (λ s. sum_by (lends b) (things_in naming m s)) ends (λ i s at. end_lends b s.role s.queue (not_lending i s at))

  pub lent_away : (ends : List Seat) → LendsNone naming ends → (pool count : ℕ) → lent_by naming m ends pool count ≡ 0
  lent_away ends not_lending pool count = below_none (λ i. bit (is_out (buffer pool i) (all_taken naming m ends))) count (λ i lt. ap bit (le-ltb (sum_by (gives_back (buffer pool i)) (all_taken naming m ends)) (sum_by (lends (buffer pool i)) (all_taken naming m ends)) (omega (arith, lends_away (buffer pool i) ends not_lending))))

-- a buffer is lent where it has receivers
lent_or_not : (P : Place) (back out : ℕ) → receivers P + back ≡ out → ((n : ℕ) → P ≡ Lent n → 1 ≤ n) → bit (nat_lt back out) ≡ bit (is_lent P)
lent_or_not Nowhere back out sums some = ap bit (le-ltb back out (omega (arith, sums)))
lent_or_not (At spot) back out sums some = ap bit (le-ltb back out (omega (arith, sums)))
lent_or_not (Lent n) back out sums some = ap bit (lt-ltb back out (omega (arith, sums, some n refl)))

-- at a moment the table is the one that what passed shows
pub record IsMoment (naming : Naming) (lender : ℕ) (hostile : Hostiles) (rows : List QueueRow) (sizes : ℕ → ℕ) (holders : List Holder) (m : Moved) (t : Table) (passed : Passed) (world : List Queue) : Type 0 where
  pub naming_is : IsNaming naming lender hostile rows
  pub keepers_are : AreKeepers rows (keepers_of holders)
  pub shown : IsShownBy naming lender (keepers_of holders) m t
  pub counted : AreCounted t
  pub carry : CarryPages naming m passed
  pub stands_there : (n : ℕ) → passed.sent n ≡ passed.taken n ++ (queue_at world n).entries
  pub size : length world ≡ length rows
  pub names : (n : ℕ) → NamesWithin sizes (naming n)
  pub starts : (k : ℕ) (h : Holder) → slice_get holders k ≡ Some h → HandWithin sizes h.keeper
  pub holds : (k : ℕ) (h : Holder) → slice_get holders k ≡ Some h → HoldsIts naming sizes m passed h

module _ (naming : Naming) (lender : ℕ) (hostile : Hostiles) (rows : List QueueRow) (sizes : ℕ → ℕ) (holders : List Holder) (m : Moved) (t : Table) (passed : Passed) (world : List Queue) (x : IsMoment naming lender hostile rows sizes holders m t passed world) (pool : PoolId) where
  abbrev count : ℕ
  count = sizes pool.0

  abbrev entries : ℕ → List Cargo
  entries n = (queue_at world n).entries

  sent_carry : (n : ℕ) → AllCarry naming m n (passed.sent n)
  sent_carry n = x.carry.bodies n

  taken_carry : (n : ℕ) → AllCarry naming m n (passed.taken n)
  taken_carry n k c at = x.carry.bodies n k c (ap (λ cs. slice_get cs k) (x.stands_there n) ∙ get_first (passed.taken n) (entries n) k c at)

  sent_among : (n : ℕ) → buffers_among pool.0 count (things_sent naming m n) ≡ buffers_of pool (bodies_of (passed.sent n))
  sent_among n = ap (λ is. buffers_among pool.0 count (things_from (naming n) (requests_of (naming n) m) 0 is)) (x.carry.sent n) ∙ carried_among naming sizes m n (x.names n) (passed.sent n) (sent_carry n) pool

  taken_among : (n : ℕ) → buffers_among pool.0 count (things_taken naming m n) ≡ buffers_of pool (bodies_of (passed.taken n))
  taken_among n = ap (λ is. buffers_among pool.0 count (things_from (naming n) (requests_of (naming n) m) 0 is)) (x.carry.taken n) ∙ carried_among naming sizes m n (x.names n) (passed.taken n) (taken_carry n) pool

  -- what stands in a queue
  queue_stands : (n : ℕ) → sum_below (λ i. stands_in n (t.place (buffer pool.0 i))) count ≡ buffers_of pool (bodies_of (entries n))
  queue_stands n =
      let parts : buffers_of pool (bodies_of (passed.sent n)) ≡ buffers_of pool (bodies_of (passed.taken n)) + buffers_of pool (bodies_of (entries n)) =
      ap (λ cs. buffers_of pool (bodies_of cs)) (x.stands_there n) ∙ Rattle.turn_kit.proofs.Holding.cargo-append pool (passed.taken n) (entries n) in
      omega (arith, queue_has naming lender (keepers_of holders) m t pool.0 count x.shown n, sent_among n, taken_among n, parts)

  pub line_queues : (census t pool.0 count).queues ≡ sum_by (λ (q : Queue). buffers_of pool (bodies_of q.entries)) world
  line_queues =
      let all = census_queues naming lender hostile rows (keepers_of holders) m t pool.0 count x.naming_is x.shown in
      let each = below_same (λ n. sum_below (λ i. stands_in n (t.place (buffer pool.0 i))) count + buffers_among pool.0 count (things_taken naming m n)) (λ n. buffers_among pool.0 count (things_sent naming m n)) (length rows) (λ n lt. queue_has naming lender (keepers_of holders) m t pool.0 count x.shown n) in
      let parts = below_plus (λ n. sum_below (λ i. stands_in n (t.place (buffer pool.0 i))) count) (λ n. buffers_among pool.0 count (things_taken naming m n)) (length rows) in
      let pages = below_same (λ n. sum_below (λ i. stands_in n (t.place (buffer pool.0 i))) count) (λ n. buffers_of pool (bodies_of (entries n))) (length rows) (λ n lt. queue_stands n) in
      let sized : sum_below (λ n. buffers_of pool (bodies_of (entries n))) (length rows) ≡ sum_by (λ (q : Queue). buffers_of pool (bodies_of q.entries)) world =
      ap (sum_below (λ n. buffers_of pool (bodies_of (entries n)))) (sym x.size) ∙ queues_sum (λ (q : Queue). buffers_of pool (bodies_of q.entries)) world in
      omega (arith, all, each, parts, pages, sized)

  -- what an actor took and put
  end_came : (r : Role) (n : ℕ) → buffers_among pool.0 count (things_in naming m (record { queue = n; role = r })) ≡ buffers_of pool (bodies_in passed r n)
  end_came Consumer n = taken_among n
  end_came Producer n = among_none pool.0 count

  end_went : (r : Role) (n : ℕ) → buffers_among pool.0 count (things_out naming m (record { queue = n; role = r })) ≡ buffers_of pool (bodies_out passed r n)
  end_went Consumer n = among_none pool.0 count
  end_went Producer n = sent_among n

  all_came : (ends : List Seat) → buffers_among pool.0 count (all_taken naming m ends) ≡ buffers_of pool (came passed ends)
  all_came [] = among_none pool.0 count
  all_came (s ∷ ends) = omega (arith, among_append pool.0 count (things_in naming m s) (all_taken naming m ends), end_came s.role s.queue, all_came ends, buffers-append pool (bodies_in passed s.role s.queue) (came passed ends))

  all_went : (ends : List Seat) → buffers_among pool.0 count (all_put naming m ends) ≡ buffers_of pool (went passed ends)
  all_went [] = among_none pool.0 count
  all_went (s ∷ ends) = omega (arith, among_append pool.0 count (things_out naming m s) (all_put naming m ends), end_went s.role s.queue, all_went ends, buffers-append pool (bodies_out passed s.role s.queue) (went passed ends))

  -- lent buffers
  away : (b : Buffer) (k : ℕ) (h : Holder) → slice_get holders k ≡ Some h → (k ≡ lender → ⊥) → sum_by (lends b) (all_taken naming m h.keeper.ends) ≡ 0
  away b k h at off = lends_away naming m b h.keeper.ends at_end
    where
      by : (l : Bool) (i : ℕ) (s : Seat) → slice_get h.keeper.ends i ≡ Some s → s.role ≡ Consumer → is_lending (naming s.queue) ≡ l → is_lending (naming s.queue) ≡ false
      by false i s s_at consumer is = is
      by true i s s_at consumer is =
          let seat = x.keepers_are.seated k h.keeper (map_get (λ (y : Holder). y.keeper) holders k h at) i s s_at in
          let owner : owner_of seat.0 Consumer ≡ k = ap (owner_of seat.0) (sym consumer) ∙ seat.2 in
          absurd (off (sym owner ∙ x.naming_is.lends s.queue seat.0 seat.1 is))

      at_end : (i : ℕ) (s : Seat) → slice_get h.keeper.ends i ≡ Some s → s.role ≡ Consumer → is_lending (naming s.queue) ≡ false
      at_end i s s_at consumer = by (is_lending (naming s.queue)) i s s_at consumer refl

  lent_at : (b : Buffer) → sum_by (λ (h : Holder). bit (is_out b (all_taken naming m h.keeper.ends))) holders ≡ bit (is_lent (t.place b))
  lent_at b = by (cases_lt lender (length holders))
    where
      others : (k : ℕ) (h : Holder) → slice_get holders k ≡ Some h → (k ≡ lender → ⊥) → bit (is_out b (all_taken naming m h.keeper.ends)) ≡ 0
      others k h at off = ap bit (le-ltb (sum_by (gives_back b) (all_taken naming m h.keeper.ends)) (sum_by (lends b) (all_taken naming m h.keeper.ends)) (omega (arith, away b k h at off)))

      not_lent : (P : Place) → IsAmong (length (keepers_of holders)) lender P → length holders ≤ lender → bit (is_lent P) ≡ 0
      not_lent Nowhere among le = refl
      not_lent (At spot) among le = refl
      not_lent (Lent n) among le = let same : length (keepers_of holders) ≡ length holders = simp length-map in absurd (omega (arith, among, le, same))

      by : (lender < length holders) ⊎ (length holders ≤ lender) → sum_by (λ (h : Holder). bit (is_out b (all_taken naming m h.keeper.ends))) holders ≡ bit (is_lent (t.place b))
      by (inl lt) =
          let h = there_is holders lender lt in
          let keeper_at : slice_get (keepers_of holders) lender ≡ Some h.0.keeper = map_get (λ (y : Holder). y.keeper) holders lender h.0 h.1 in
          let mine = lent_or_not (t.place b) (sum_by (gives_back b) (all_taken naming m h.0.keeper.ends)) (sum_by (lends b) (all_taken naming m h.0.keeper.ends)) (x.shown.lent h.0.keeper b keeper_at) (x.counted.some b) in
          sum_one (λ (y : Holder). bit (is_out b (all_taken naming m y.keeper.ends))) (bit (is_lent (t.place b))) holders lender h.0 h.1 mine (λ k y at off. others k y at off)
      by (inr le) =
          sum_none (λ (y : Holder). bit (is_out b (all_taken naming m y.keeper.ends))) holders (λ k y at. others k y at (λ e. omega (arith, e, le, there_below holders k y at)))
          ∙ sym (not_lent (t.place b) (x.shown.among b) le)

  pub line_lent : (census t pool.0 count).lent ≡ sum_by (λ (h : Holder). h.lent pool.0) holders
  line_lent =
      let each = sums_alike (λ (h : Holder). h.lent pool.0) (λ (h : Holder). lent_by naming m h.keeper.ends pool.0 count) holders (λ k h at. (x.holds k h at).lends pool.0) in
      let swapped = sums_swap (λ (h : Holder) i. bit (is_out (buffer pool.0 i) (all_taken naming m h.keeper.ends))) count holders in
      let same = below_same (λ i. sum_by (λ (h : Holder). bit (is_out (buffer pool.0 i) (all_taken naming m h.keeper.ends))) holders) (λ i. bit (is_lent (t.place (buffer pool.0 i)))) count (λ i lt. lent_at (buffer pool.0 i)) in
      omega (arith, each, swapped, same)

  pub line_hands : (census t pool.0 count).hands ≡ sum_by (λ (h : Holder). buffers_of pool h.hand) holders
  line_hands =
      let all = census_hands naming lender (keepers_of holders) m t pool.0 count x.shown in
      let put = sum_mapped (λ (p : Keeper). buffers_among pool.0 count (all_put naming m p.ends)) (λ (h : Holder). h.keeper) holders in
      let took = sum_mapped (λ (p : Keeper). buffers_at_start pool.0 count p.hand + buffers_among pool.0 count (all_taken naming m p.ends)) (λ (h : Holder). h.keeper) holders in
      let each = sums_alike (λ (h : Holder). buffers_at_start pool.0 count h.keeper.hand + buffers_among pool.0 count (all_taken naming m h.keeper.ends)) (λ (h : Holder). buffers_among pool.0 count (all_put naming m h.keeper.ends) + (buffers_of pool h.hand + h.lent pool.0)) holders (λ k h at. one k h at) in
      let parts = sums_plus (λ (h : Holder). buffers_among pool.0 count (all_put naming m h.keeper.ends)) (λ (h : Holder). buffers_of pool h.hand + h.lent pool.0) holders in
      let halves = sums_plus (λ (h : Holder). buffers_of pool h.hand) (λ (h : Holder). h.lent pool.0) holders in
      omega (arith, all, put, took, each, parts, halves, line_lent)
    where
      one : (k : ℕ) (h : Holder) → slice_get holders k ≡ Some h → buffers_at_start pool.0 count h.keeper.hand + buffers_among pool.0 count (all_taken naming m h.keeper.ends) ≡ buffers_among pool.0 count (all_put naming m h.keeper.ends) + (buffers_of pool h.hand + h.lent pool.0)
      one k h at = omega (arith, (x.holds k h at).balances pool, start_many pool.0 count (h.keeper.hand pool.0) (x.starts k h at pool.0), all_came h.keeper.ends, all_went h.keeper.ends)

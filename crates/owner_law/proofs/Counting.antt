use Rattle.std.proofs.Common.{◌≡◌, ◌⊎◌, ◌==◌, ◌+◌, ◌<◌, ◌≤◌, ◌≢◌, ℕ, zero, suc, Bool, true, false, cond, nat_lt, Some, List, [], ◌∷◌, ◌++◌, length, slice_get, sum_by, refl, sym, ap, ap₂, ◌∙◌, subst, arith, eq-eqb, inl, inr, ltb-true, ltb-false}
use Rattle.std.proofs.Math.Dec.{eqb}
use Rattle.std.proofs.lemmas.Bool.Decides.{eqb_tells}
use Rattle.std.proofs.lemmas.List.Sums.{sum_by-cons}
use Rattle.cargo_core.specs.declared.item.Item.{Item}
use Rattle.wire_core.specs.declared.names.QueueRow.{QueueRow}
use Rattle.wire_core.specs.declared.names.Entry.{Entry}
use Rattle.wire_core.specs.Bells.{bit}
use Rattle.wire_core.specs.Marks.{sum_below}
use Rattle.wire_core.specs.Journal.{History, Hostiles}
use Rattle.play_core.specs.Moved.{Moved, moved}
use Rattle.play_core.specs.Still.{Holds}
use Rattle.play_core.proofs.Lists.{there_below}
use Rattle.owner_law.specs.Things.{Buffer, is_same, Names, NoBuffers, Naming, Thing, Nothing, Whole, Frame, Lease, Return, things_from, requests_of, things_sent, things_taken, as_buffer}
use Rattle.owner_law.specs.Owners.{Spot, InQueue, InHand, Place, Nowhere, At, Lent, Table, Move, Stays, Puts, Takes, move_of, after_move, frame_place, returned_place, replay, replay_from}
use Rattle.owner_law.specs.Keeping.{Keeper, at_start, all_taken, all_put, stands_in, is_with, IsAmong, IsShownBy, IsNaming}
use Rattle.owner_law.specs.Census.{is_queued, is_held, is_lent, census, IsPool, buffers_among, buffers_at_start}
use Rattle.owner_law.proofs.Sums.{same_is}

-- sums over the first numbers
pub below_plus : (f g : ℕ → ℕ) (k : ℕ) → sum_below (λ n. f n + g n) k ≡ sum_below f k + sum_below g k
below_plus f g zero = refl
below_plus f g (suc k) = omega (arith, below_plus f g k)

pub below_same : (f g : ℕ → ℕ) (k : ℕ) → ((n : ℕ) → n < k → f n ≡ g n) → sum_below f k ≡ sum_below g k
below_same f g zero same = refl
below_same f g (suc k) same = ap₂ (λ a b. a + b) (below_same f g k (λ n lt. same n (omega (arith, lt)))) (same k (omega arith))

pub below_none : (f : ℕ → ℕ) (k : ℕ) → ((n : ℕ) → n < k → f n ≡ 0) → sum_below f k ≡ 0
below_none f zero none = refl
below_none f (suc k) none = omega (arith, below_none f k (λ n lt. none n (omega (arith, lt))), none k (omega arith))

pub below_one : (f : ℕ → ℕ) (k x d : ℕ) → x < k → f x ≡ d → ((n : ℕ) → (x ≡ n → ⊥) → f n ≡ 0) → sum_below f k ≡ d
below_one f zero x d lt is none = absurd (omega (arith, lt))
below_one f (suc k) x d lt is none = one_by (eqb_tells x k) (λ off. below_one f k x d (omega (arith, lt, off)) is none)
  where
    one_by : ((eqb x k ≡ true) × (x ≡ k)) ⊎ ((eqb x k ≡ false) × (x ≢ k)) → (x ≢ k → sum_below f k ≡ d) → sum_below f k + f k ≡ d
    one_by (inl h) rest = omega (arith, below_none f k (λ n n_lt. none n (λ e. omega (arith, e, h.1, n_lt))), ap f h.1, is)
    one_by (inr h) rest = omega (arith, rest h.1, none k h.1)

pub below_swap : (f : ℕ → ℕ → ℕ) (a b : ℕ) → sum_below (λ i. sum_below (λ j. f i j) b) a ≡ sum_below (λ j. sum_below (λ i. f i j) a) b
below_swap f zero b = sym (below_none (λ j. 0) b (λ n lt. refl))
below_swap f (suc a) b = ap (λ s. s + sum_below (λ j. f a j) b) (below_swap f a b) ∙ sym (below_plus (λ j. sum_below (λ i. f i j) a) (λ j. f a j) b)

below_first : (f : ℕ → ℕ) (k : ℕ) → sum_below f (suc k) ≡ f 0 + sum_below (λ n. f (suc n)) k
below_first f zero = omega arith
below_first f (suc k) = omega (arith, below_first f k)

-- a sum over places and one over what stands there
below_list : (f : ℕ → ℕ) (g h : Keeper → ℕ) (ps : List Keeper) → ((i : ℕ) (p : Keeper) → slice_get ps i ≡ Some p → f i + g p ≡ h p) → sum_below f (length ps) + sum_by g ps ≡ sum_by h ps
below_list f g h [] each = refl
below_list f g h (p ∷ ps) each = omega (arith, below_first f (length ps), sum_by-cons g p ps, sum_by-cons h p ps, each 0 p refl, below_list (λ i. f (suc i)) g h ps (λ i q at. each (suc i) q at))

-- a buffer that has a place goes on to have one
kept_somewhere : (s : Bool) (P Q : Place) → (s ≡ true → P ≡ Nowhere → ⊥) → (Q ≡ Nowhere → ⊥) → cond s P Q ≡ Nowhere → ⊥
kept_somewhere true P Q mine yours = mine refl
kept_somewhere false P Q mine yours = yours

at_somewhere : (spot : Spot) → At spot ≡ Nowhere → ⊥
at_somewhere spot h = cc

frame_somewhere : (k r : ℕ) → frame_place k r ≡ Nowhere → ⊥
frame_somewhere k zero h = cc
frame_somewhere k (suc r) h = cc

back_somewhere : (b : Bool) (k r : ℕ) → cond b (At (InHand k)) (Lent r) ≡ Nowhere → ⊥
back_somewhere true k r h = cc
back_somewhere false k r h = cc

returned_somewhere : (k : ℕ) (P : Place) → (P ≡ Nowhere → ⊥) → returned_place k P ≡ Nowhere → ⊥
returned_somewhere k Nowhere some h = some refl
returned_somewhere k (At spot) some h = some h
returned_somewhere k (Lent r) some h = back_somewhere (eqb r 1) k _ h

move_somewhere : (t : Table) (k n : ℕ) (move : Move) (b : Buffer) → (t.place b ≡ Nowhere → ⊥) → (after_move t k n move).place b ≡ Nowhere → ⊥
move_somewhere t k n Stays b some = some
move_somewhere t k n (Puts Nothing) b some = some
move_somewhere t k n (Puts (Whole c)) b some = kept_somewhere (is_same c b) (At (InQueue n)) (t.place b) (λ s. at_somewhere (InQueue n)) some
move_somewhere t k n (Puts (Frame c r)) b some = kept_somewhere (is_same c b) (At (InQueue n)) (t.place b) (λ s. at_somewhere (InQueue n)) some
move_somewhere t k n (Puts (Lease c)) b some = some
move_somewhere t k n (Puts (Return c)) b some = some
move_somewhere t k n (Takes Nothing) b some = some
move_somewhere t k n (Takes (Whole c)) b some = kept_somewhere (is_same c b) (At (InHand k)) (t.place b) (λ s. at_somewhere (InHand k)) some
move_somewhere t k n (Takes (Frame c r)) b some = kept_somewhere (is_same c b) (frame_place k r) (t.place b) (λ s. frame_somewhere k r) some
move_somewhere t k n (Takes (Lease c)) b some = some
move_somewhere t k n (Takes (Return c)) b some = kept_somewhere (is_same c b) (returned_place k (t.place c)) (t.place b) (λ s. returned_somewhere k (t.place c) (subst (λ d. t.place d ≡ Nowhere → ⊥) (sym (same_is c b s)) some)) some

replay_somewhere : (naming : Naming) (history : History) (before : List Entry) (t : Table) (es : List Entry) (b : Buffer) → (t.place b ≡ Nowhere → ⊥) → (replay_from naming history before t es).place b ≡ Nowhere → ⊥
replay_somewhere naming history before t [] b some = some
replay_somewhere naming history before t (e ∷ es) b some =
    let move = move_of naming (moved history before) e in
    replay_somewhere naming history (before ++ e ∷ []) (after_move t e.actor.0 e.event.queue.0 move) es b (move_somewhere t e.actor.0 e.event.queue.0 move b some)

one_of_three : (P : Place) → (P ≡ Nowhere → ⊥) → bit (is_queued P) + bit (is_held P) + bit (is_lent P) ≡ 1
one_of_three Nowhere some = absurd (some refl)
one_of_three (At (InQueue n)) some = refl
one_of_three (At (InHand k)) some = refl
one_of_three (Lent r) some = refl

-- each buffer counts once
pub counts_whole : (t : Table) (pool buffers : ℕ) → IsPool t pool buffers → (census t pool buffers).queues + (census t pool buffers).hands + (census t pool buffers).lent ≡ buffers
counts_whole t pool zero some = refl
counts_whole t pool (suc k) some = omega (arith, counts_whole t pool k (λ no lt. some no (omega (arith, lt))), one_of_three (t.place (record { pool = pool; no = k })) (some k (omega arith)))

pub census_whole : (naming : Naming) (history : History) (start : Table) (pool buffers : ℕ) → IsPool start pool buffers → (journal : List Entry) → (census (replay naming history start journal) pool buffers).queues + (census (replay naming history start journal) pool buffers).hands + (census (replay naming history start journal) pool buffers).lent ≡ buffers
census_whole naming history start pool buffers some journal = counts_whole (replay naming history start journal) pool buffers (λ no lt. replay_somewhere naming history [] start journal (record { pool = pool; no = no }) (some no lt))

-- nothing is named
pub nothing_sum : (f : Thing → ℕ) → f Nothing ≡ 0 → (rs : List Item) (k : ℕ) (items : List Item) → sum_by f (things_from NoBuffers rs k items) ≡ 0
nothing_sum f none rs k [] = refl
nothing_sum f none rs k (i ∷ items) = omega (arith, sum_by-cons f Nothing (things_from NoBuffers rs (k + 1) items), none, nothing_sum f none rs (k + 1) items)

queue_is : (q count : ℕ) → (count ≤ q → bit (q == q) ≡ 0) → sum_below (λ n. bit (q == n)) count ≡ 1
queue_is q count none = by (nat_lt q count) refl
  where
    one : bit (q == q) ≡ 1
    one = ap bit (eq-eqb q q refl)

    other : (n : ℕ) → (q ≡ n → ⊥) → bit (q == n) ≡ 0
    other n off = split (eqb_tells q n)
      where
        split : ((eqb q n ≡ true) × (q ≡ n)) ⊎ ((eqb q n ≡ false) × (q ≢ n)) → bit (q == n) ≡ 0
        split (inl h) = absurd (off h.1)
        split (inr h) = ap bit h.0

    by : (b : Bool) → nat_lt q count ≡ b → sum_below (λ n. bit (q == n)) count ≡ 1
    by true is = below_one (λ n. bit (q == n)) count q 1 (ltb-true q count is) one other
    by false is = absurd (omega (arith, one, none (ltb-false q count is)))

-- a buffer in a queue is in one of those that are there
queued_is : (P : Place) (count : ℕ) → ((q : ℕ) → count ≤ q → stands_in q P ≡ 0) → bit (is_queued P) ≡ sum_below (λ n. stands_in n P) count
queued_is Nowhere count none = sym (below_none (λ n. 0) count (λ n lt. refl))
queued_is (At (InQueue q)) count none = sym (queue_is q count (none q))
queued_is (At (InHand k)) count none = sym (below_none (λ n. 0) count (λ n lt. refl))
queued_is (Lent r) count none = sym (below_none (λ n. 0) count (λ n lt. refl))

-- a buffer that an actor has is with one of those that are there
with_is : (lender : ℕ) (P : Place) (count : ℕ) → IsAmong count lender P → bit (is_held P) + bit (is_lent P) ≡ sum_below (λ k. is_with lender k P) count
with_is lender Nowhere count among = sym (below_none (λ n. 0) count (λ n lt. refl))
with_is lender (At (InQueue q)) count among = sym (below_none (λ n. 0) count (λ n lt. refl))
with_is lender (At (InHand k)) count among = sym (queue_is k count (λ le. absurd (omega (arith, le, among))))
with_is lender (Lent r) count among = sym (queue_is lender count (λ le. absurd (omega (arith, le, among))))

module _ (naming : Naming) (lender : ℕ) (hostile : Hostiles) (rows : List QueueRow) (keepers : List Keeper) (m : Moved) (t : Table) (pool buffers : ℕ) (is : IsNaming naming lender hostile rows) (shown : IsShownBy naming lender keepers m t) where
  abbrev the : ℕ → Buffer
  the i = record { pool = pool; no = i }

  past : (b : Buffer) (q : ℕ) → length rows ≤ q → stands_in q (t.place b) ≡ 0
  past b q le = by (is.calm q)
    where
      by : (naming q ≡ NoBuffers) ⊎ Holds hostile rows q 0 → stands_in q (t.place b) ≡ 0
      by (inl none) =
          let sent_none : sum_by (as_buffer b) (things_sent naming m q) ≡ 0 = subst (λ (x : Names). sum_by (as_buffer b) (things_from x (requests_of x m) 0 (m.sent q)) ≡ 0) (sym none) (nothing_sum (as_buffer b) refl [] 0 (m.sent q)) in
          omega (arith, shown.queued q b, sent_none)
      by (inr holds) = absurd (omega (arith, le, there_below rows q holds.row holds.there))

  buffer_queued : (b : Buffer) → bit (is_queued (t.place b)) + sum_below (λ n. sum_by (as_buffer b) (things_taken naming m n)) (length rows) ≡ sum_below (λ n. sum_by (as_buffer b) (things_sent naming m n)) (length rows)
  buffer_queued b =
      let each : sum_below (λ n. sum_by (as_buffer b) (things_taken naming m n) + stands_in n (t.place b)) (length rows) ≡ sum_below (λ n. sum_by (as_buffer b) (things_sent naming m n)) (length rows) = below_same (λ n. sum_by (as_buffer b) (things_taken naming m n) + stands_in n (t.place b)) (λ n. sum_by (as_buffer b) (things_sent naming m n)) (length rows) (λ n lt. shown.queued n b) in
      omega (arith, each, below_plus (λ n. sum_by (as_buffer b) (things_taken naming m n)) (λ n. stands_in n (t.place b)) (length rows), queued_is (t.place b) (length rows) (past b))

  pub census_queues : (census t pool buffers).queues + sum_below (λ n. buffers_among pool buffers (things_taken naming m n)) (length rows) ≡ sum_below (λ n. buffers_among pool buffers (things_sent naming m n)) (length rows)
  census_queues =
      let taken_at : ℕ → ℕ → ℕ = λ n no. sum_by (as_buffer (the no)) (things_taken naming m n) in
      let sent_at : ℕ → ℕ → ℕ = λ n no. sum_by (as_buffer (the no)) (things_sent naming m n) in
      let each = below_same (λ no. bit (is_queued (t.place (the no))) + sum_below (λ n. sum_by (as_buffer (the no)) (things_taken naming m n)) (length rows)) (λ no. sum_below (λ n. sum_by (as_buffer (the no)) (things_sent naming m n)) (length rows)) buffers (λ no lt. buffer_queued (the no)) in
      omega (
        arith,
        each,
        below_plus (λ no. bit (is_queued (t.place (the no)))) (λ no. sum_below (λ n. sum_by (as_buffer (the no)) (things_taken naming m n)) (length rows)) buffers,
        below_swap (λ n no. sum_by (as_buffer (the no)) (things_taken naming m n)) (length rows) buffers,
        below_swap (λ n no. sum_by (as_buffer (the no)) (things_sent naming m n)) (length rows) buffers,
      )

module _ (naming : Naming) (lender : ℕ) (keepers : List Keeper) (m : Moved) (t : Table) (pool buffers : ℕ) (shown : IsShownBy naming lender keepers m t) where
  abbrev this : ℕ → Buffer
  this i = record { pool = pool; no = i }

  -- of a queue
  pub queue_has : (n : ℕ) → sum_below (λ no. stands_in n (t.place (this no))) buffers + buffers_among pool buffers (things_taken naming m n) ≡ buffers_among pool buffers (things_sent naming m n)
  queue_has n =
      let each = below_same (λ no. sum_by (as_buffer (this no)) (things_taken naming m n) + stands_in n (t.place (this no))) (λ no. sum_by (as_buffer (this no)) (things_sent naming m n)) buffers (λ no lt. shown.queued n (this no)) in
      omega (arith, each, below_plus (λ no. sum_by (as_buffer (this no)) (things_taken naming m n)) (λ no. stands_in n (t.place (this no))) buffers)

  -- of an actor
  pub actor_has : (k : ℕ) (p : Keeper) → slice_get keepers k ≡ Some p → sum_below (λ no. is_with lender k (t.place (this no))) buffers + buffers_among pool buffers (all_put naming m p.ends) ≡ buffers_at_start pool buffers p.hand + buffers_among pool buffers (all_taken naming m p.ends)
  actor_has k p at =
      let each = below_same (λ no. sum_by (as_buffer (this no)) (all_put naming m p.ends) + is_with lender k (t.place (this no))) (λ no. at_start p.hand (this no) + sum_by (as_buffer (this no)) (all_taken naming m p.ends)) buffers (λ no lt. shown.held k p (this no) at) in
      omega (arith, each, below_plus (λ no. sum_by (as_buffer (this no)) (all_put naming m p.ends)) (λ no. is_with lender k (t.place (this no))) buffers, below_plus (λ no. at_start p.hand (this no)) (λ no. sum_by (as_buffer (this no)) (all_taken naming m p.ends)) buffers)

  pub census_hands : (census t pool buffers).hands + (census t pool buffers).lent + sum_by (λ p. buffers_among pool buffers (all_put naming m p.ends)) keepers ≡ sum_by (λ p. buffers_at_start pool buffers p.hand + buffers_among pool buffers (all_taken naming m p.ends)) keepers
  census_hands =
      let each = below_same (λ no. bit (is_held (t.place (this no))) + bit (is_lent (t.place (this no)))) (λ no. sum_below (λ k. is_with lender k (t.place (this no))) (length keepers)) buffers (λ no lt. with_is lender (t.place (this no)) (length keepers) (shown.among (this no))) in
      omega (
        arith,
        each,
        below_plus (λ no. bit (is_held (t.place (this no)))) (λ no. bit (is_lent (t.place (this no)))) buffers,
        below_swap (λ k no. is_with lender k (t.place (this no))) (length keepers) buffers,
        below_list (λ k. sum_below (λ no. is_with lender k (t.place (this no))) buffers) (λ p. buffers_among pool buffers (all_put naming m p.ends)) (λ p. buffers_at_start pool buffers p.hand + buffers_among pool buffers (all_taken naming m p.ends)) keepers actor_has,
      )

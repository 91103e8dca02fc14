use Rattle.std.proofs.Common.{◌≡◌, ◌⊎◌, ◌+◌, ◌<◌, ◌≤◌, ℕ, Some, List, [], ◌++◌, length, slice_get, sum_by, refl, sym, ap, subst, arith, inl, inr, lt-ltb, length-append}
use Rattle.std.proofs.lemmas.Option.{slice_get_past}
use Rattle.std.proofs.lemmas.List.Sums.{sum_by-append}
use Rattle.cargo_core.specs.Lists.{IsPrefix}
use Rattle.wire_core.specs.declared.names.QueueRow.{QueueRow}
use Rattle.wire_core.specs.Bells.{bit}
use Rattle.wire_core.specs.Marks.{sum_below}
use Rattle.wire_core.specs.Journal.{History, Hostiles, QueuesFlow}
use Rattle.play_core.specs.Moved.{Moved, moved, sent, taken}
use Rattle.play_core.specs.Still.{Holds}
use Rattle.play_core.proofs.Lists.{there_is, there_below}
use Rattle.owner_law.specs.Things.{Buffer, Names, NoBuffers, Naming, Thing, Nothing, things_from, requests_of, things_sent, things_taken, as_buffer, as_lease, lends, gives_back}
use Rattle.owner_law.specs.Owners.{Spot, InQueue, InHand, is_spot, Table, leases_at, receivers, AreCounted}
use Rattle.owner_law.specs.Keeping.{Keeper, all_taken, all_put, is_out, Keeps, stands_in, is_with, IsShownBy, IsNaming}
use Rattle.owner_law.specs.Shown.{buffers_left, leases_left, buffers_with, leases_with, receivers_left, of_actor, number_of, first_some, spots_below, shown_table, HaveOnePlace}
use Rattle.owner_law.specs.Census.{IsPool}
use Rattle.owner_law.proofs.Sums.{when}
use Rattle.owner_law.proofs.Tables.{spots_at}
use Rattle.owner_law.proofs.Lists.{sum_things}
use Rattle.owner_law.proofs.Counting.{nothing_sum}
use Rattle.owner_law.proofs.Showing.{first_tells, shows_stands, shows_with, shows_owed, shows_among, shows_some, shows_place, spots_length, queue_spots, hand_spots, no_queue_spots, no_hand_spots}

-- the number of an actor that is there, and of one that isn't
actor_is : (keepers : List Keeper) (f : Keeper → ℕ) (k : ℕ) (p : Keeper) → slice_get keepers k ≡ Some p → of_actor keepers f k ≡ f p
actor_is keepers f k p at = ap (λ o. number_of o f) at

actor_past : (keepers : List Keeper) (f : Keeper → ℕ) (k : ℕ) → length keepers ≤ k → of_actor keepers f k ≡ 0
actor_past keepers f k le = ap (λ o. number_of o f) (slice_get_past keepers k le)

module _ (naming : Naming) (lender : ℕ) (hostile : Hostiles) (history : History) (rows : List QueueRow) (keepers : List Keeper) (is : IsNaming naming lender hostile rows) (flows : QueuesFlow history rows []) (keeps : (k : ℕ) (p : Keeper) → slice_get keepers k ≡ Some p → Keeps p.hand (all_taken naming (moved history []) p.ends) (all_put naming (moved history []) p.ends)) (there : lender < length keepers) (one : HaveOnePlace naming lender keepers (length rows) (moved history [])) where
  abbrev m : Moved
  m = moved history []

  abbrev t : Table
  t = shown_table naming lender keepers (length rows) m

  -- what was taken from a queue is no more than what was put there, and nothing at one that isn't there
  taken_few : (f : Thing → ℕ) → f Nothing ≡ 0 → (n : ℕ) → sum_by f (things_taken naming m n) ≤ sum_by f (things_sent naming m n)
  taken_few f none n = by (is.calm n)
    where
      by : (naming n ≡ NoBuffers) ⊎ Holds hostile rows n 0 → sum_by f (things_taken naming m n) ≤ sum_by f (things_sent naming m n)
      by (inl h) =
          let zero_ : sum_by f (things_taken naming m n) ≡ 0 = subst (λ (x : Names). sum_by f (things_from x (requests_of x m) 0 (m.taken n)) ≡ 0) (sym h) (nothing_sum f none [] 0 (m.taken n)) in
          omega (arith, zero_)
      by (inr h) =
          let begins : IsPrefix (taken history n []) (sent history n []) = (flows n h.row h.there).begins in
          let rs = requests_of (naming n) m in
          let whole : sum_by f (things_from (naming n) rs 0 (taken history n [] ++ begins.0)) ≡ sum_by f (things_sent naming m n) = ap (λ xs. sum_by f (things_from (naming n) rs 0 xs)) begins.1 in
          omega (arith, sum_things f (naming n) rs (taken history n []) begins.0, whole)

  past_none : (f : Thing → ℕ) → f Nothing ≡ 0 → (n : ℕ) → length rows ≤ n → sum_by f (things_sent naming m n) ≡ 0
  past_none f none n le = by (is.calm n)
    where
      by : (naming n ≡ NoBuffers) ⊎ Holds hostile rows n 0 → sum_by f (things_sent naming m n) ≡ 0
      by (inl h) = subst (λ (x : Names). sum_by f (things_from x (requests_of x m) 0 (m.sent n)) ≡ 0) (sym h) (nothing_sum f none [] 0 (m.sent n))
      by (inr h) = absurd (omega (arith, le, there_below rows n h.row h.there))

  module _ (b : Buffer) where
    abbrev left : ℕ → ℕ
    left = buffers_left naming m b

    abbrev has : ℕ → ℕ
    has = of_actor keepers (buffers_with naming m b)

    abbrev owed : ℕ
    owed = of_actor keepers (receivers_left naming m b) lender

    left_past : (n : ℕ) → length rows ≤ n → left n ≡ 0
    left_past n le = omega (arith, past_none (as_buffer b) refl n le)

    owed_lends : 1 ≤ owed → 1 ≤ has lender
    owed_lends some = by (there_is keepers lender there)
      where
        by : (p : Keeper) × (slice_get keepers lender ≡ Some p) → 1 ≤ has lender
        by (p, at) =
            let more : sum_by (gives_back b) (all_taken naming m p.ends) < sum_by (lends b) (all_taken naming m p.ends) = omega (arith, some, actor_is keepers (receivers_left naming m b) lender p at) in
            let out : bit (is_out b (all_taken naming m p.ends)) ≡ 1 = ap bit (lt-ltb (sum_by (gives_back b) (all_taken naming m p.ends)) (sum_by (lends b) (all_taken naming m p.ends)) more) in
            omega (arith, (keeps lender p at).buffers b, out, actor_is keepers (buffers_with naming m b) lender p at)

    place_stands : (n : ℕ) → stands_in n (t.place b) ≡ left n
    place_stands n = shows_stands left (length rows) has (length keepers) lender owed (one.once b) left_past owed_lends there (first_some left (length rows)) (first_some has (length keepers)) (first_tells left (length rows)) (first_tells has (length keepers)) owed n

    place_with : (k : ℕ) → k < length keepers → is_with lender k (t.place b) ≡ has k
    place_with k lt = shows_with left (length rows) has (length keepers) lender owed (one.once b) left_past owed_lends there (first_some left (length rows)) (first_some has (length keepers)) (first_tells left (length rows)) (first_tells has (length keepers)) owed refl k lt

    place_owed : receivers (t.place b) ≡ owed
    place_owed = shows_owed left (length rows) has (length keepers) lender owed (one.once b) left_past owed_lends there (first_some left (length rows)) (first_some has (length keepers)) (first_tells left (length rows)) (first_tells has (length keepers)) owed refl

    spots_both : (spot : Spot) → leases_at t b spot ≡ spots_at spot (spots_below (leases_left naming m b) InQueue (length rows)) + spots_at spot (spots_below (of_actor keepers (leases_with naming m b)) InHand (length keepers))
    spots_both spot = sum_by-append (λ s. when (is_spot s spot) 1) (spots_below (leases_left naming m b) InQueue (length rows)) (spots_below (of_actor keepers (leases_with naming m b)) InHand (length keepers))

    leases_in : (n : ℕ) → leases_at t b (InQueue n) ≡ leases_left naming m b n
    leases_in n = omega (arith, spots_both (InQueue n), queue_spots (leases_left naming m b) n (length rows) (λ le. omega (arith, past_none (as_lease b) refl n le)), no_queue_spots (of_actor keepers (leases_with naming m b)) n (length keepers))

    leases_by : (k : ℕ) → leases_at t b (InHand k) ≡ of_actor keepers (leases_with naming m b) k
    leases_by k = omega (arith, spots_both (InHand k), hand_spots (of_actor keepers (leases_with naming m b)) k (length keepers) (λ le. actor_past keepers (leases_with naming m b) k le), no_hand_spots (leases_left naming m b) k (length rows))

    leases_count : receivers (t.place b) ≡ length (t.leases b)
    leases_count = by (there_is keepers lender there)
      where
        by : (p : Keeper) × (slice_get keepers lender ≡ Some p) → receivers (t.place b) ≡ length (t.leases b)
        by (p, at) = omega (arith, place_owed, actor_is keepers (receivers_left naming m b) lender p at, one.leases b p at, length-append (spots_below (leases_left naming m b) InQueue (length rows)) (spots_below (of_actor keepers (leases_with naming m b)) InHand (length keepers)), spots_length (leases_left naming m b) InQueue (length rows), spots_length (of_actor keepers (leases_with naming m b)) InHand (length keepers))

  pub table_shown : IsShownBy naming lender keepers m t × AreCounted t
  table_shown = (
    record {
      queued = λ n b. omega (arith, place_stands b n, taken_few (as_buffer b) refl n);
      leases_queued = λ n b. omega (arith, leases_in b n, taken_few (as_lease b) refl n);
      held = λ k p b at. omega (arith, place_with b k (there_below keepers k p at), actor_is keepers (buffers_with naming m b) k p at, (keeps k p at).buffers b);
      leases_held = λ k p b at. omega (arith, leases_by b k, actor_is keepers (leases_with naming m b) k p at, (keeps k p at).leases b);
      lent = λ p b at. omega (arith, place_owed b, actor_is keepers (receivers_left naming m b) lender p at, one.leases b p at);
      among = λ b. shows_among (left b) (length rows) (has b) (length keepers) lender (owed b) (one.once b) (left_past b) (owed_lends b) there (first_some (left b) (length rows)) (first_some (has b) (length keepers)) (first_tells (has b) (length keepers)) (owed b);
    },
    record {
      leases = leases_count;
      some = λ b n h. shows_some (first_some (left b) (length rows)) (first_some (has b) (length keepers)) (owed b) n h;
    },
  )

pub pools_shown : (naming : Naming) (lender : ℕ) (keepers : List Keeper) (queues : ℕ) (m : Moved) (pool buffers : ℕ) → ((i : ℕ) → i < buffers → 1 ≤ sum_below (buffers_left naming m (record { pool = pool; no = i })) queues + sum_below (of_actor keepers (buffers_with naming m (record { pool = pool; no = i }))) (length keepers)) → IsPool (shown_table naming lender keepers queues m) pool buffers
pools_shown naming lender keepers queues m pool buffers some = λ i lt.
    let b : Buffer = record { pool = pool; no = i } in
    shows_place (buffers_left naming m b) (of_actor keepers (buffers_with naming m b)) queues (length keepers) (some i lt) (first_some (buffers_left naming m b) queues) (first_some (of_actor keepers (buffers_with naming m b)) (length keepers)) (first_tells (buffers_left naming m b) queues) (first_tells (of_actor keepers (buffers_with naming m b)) (length keepers)) (of_actor keepers (receivers_left naming m b) lender)

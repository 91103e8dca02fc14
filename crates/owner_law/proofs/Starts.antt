use Rattle.std.proofs.Common.{◌≡◌, ◌⊎◌, ◌==◌, ◌+◌, ◌<◌, ◌≤◌, ◌≢◌, ℕ, zero, suc, Bool, true, false, cond, nat_lt, Some, List, [], ◌∷◌, length, slice_get, sum_by, refl, sym, ap, ◌∙◌, arith, eq-eqb, inl, inr, ltb-true, ltb-false}
use Rattle.std.proofs.Math.Dec.{eqb}
use Rattle.std.proofs.lemmas.Bool.Decides.{eqb_tells}
use Rattle.std.proofs.lemmas.List.Sums.{sum_by-cons}
use Rattle.wire_core.specs.declared.names.QueueRow.{QueueRow}
use Rattle.wire_core.specs.Bells.{bit}
use Rattle.wire_core.specs.Ends.{Role, Consumer, Producer}
use Rattle.wire_core.specs.Journal.{Track, start_track, start_history, history_at}
use Rattle.play_core.specs.Moved.{Moved, Seat, moved}
use Rattle.owner_law.specs.Things.{Buffer, Naming, Thing, things_from, requests_of, things_sent, things_taken, as_buffer, as_lease, lends, gives_back, brings_leases}
use Rattle.owner_law.specs.Owners.{InHand, Place, Nowhere, At, Lent, receivers, AreCounted}
use Rattle.owner_law.specs.Keeping.{Keeper, at_start, things_in, things_out, by_role, all_taken, all_put, stands_in, is_with, IsAmong, IsShownBy, first_place, start_table, AreDealt}
use Rattle.owner_law.specs.Census.{IsPool}
use Rattle.owner_law.proofs.Sums.{sum_flat, sum_none}

first_stands : (b : Bool) (k n : ℕ) (P : Place) → stands_in n P ≡ 0 → stands_in n (cond b (At (InHand k)) P) ≡ 0
first_stands true k n P h = refl
first_stands false k n P h = h

no_queue : (k n : ℕ) (ps : List Keeper) (b : Buffer) → stands_in n (first_place k ps b) ≡ 0
no_queue k n [] b = refl
no_queue k n (p ∷ ps) b = first_stands (nat_lt 0 (at_start p.hand b)) k n (first_place (k + 1) ps b) (no_queue (k + 1) n ps b)

first_receivers : (b : Bool) (k : ℕ) (P : Place) → receivers P ≡ 0 → receivers (cond b (At (InHand k)) P) ≡ 0
first_receivers true k P h = refl
first_receivers false k P h = h

no_receivers : (k : ℕ) (ps : List Keeper) (b : Buffer) → receivers (first_place k ps b) ≡ 0
no_receivers k [] b = refl
no_receivers k (p ∷ ps) b = first_receivers (nat_lt 0 (at_start p.hand b)) k (first_place (k + 1) ps b) (no_receivers (k + 1) ps b)

first_lent : (b : Bool) (k n : ℕ) (P : Place) → (P ≡ Lent n → ⊥) → cond b (At (InHand k)) P ≡ Lent n → ⊥
first_lent true k n P h e = cc
first_lent false k n P h e = h e

not_lent : (k n : ℕ) (ps : List Keeper) (b : Buffer) → first_place k ps b ≡ Lent n → ⊥
not_lent k n [] b h = cc
not_lent k n (p ∷ ps) b h = first_lent (nat_lt 0 (at_start p.hand b)) k n (first_place (k + 1) ps b) (not_lent (k + 1) n ps b) h

pub start_counted : (keepers : List Keeper) → AreCounted (start_table keepers)
start_counted keepers = record {
  leases = no_receivers 0 keepers;
  some = λ b n h. absurd (not_lent 0 n keepers b h);
}

first_among : (s : Bool) (k count lender : ℕ) (P : Place) → k < count → IsAmong count lender P → IsAmong count lender (cond s (At (InHand k)) P)
first_among true k count lender P lt h = lt
first_among false k count lender P lt h = h

among_all : (k count lender : ℕ) (ps : List Keeper) (b : Buffer) → k + length ps ≤ count → IsAmong count lender (first_place k ps b)
among_all k count lender [] b le = tt
among_all k count lender (p ∷ ps) b le = first_among (nat_lt 0 (at_start p.hand b)) k count lender (first_place (k + 1) ps b) (omega (arith, le)) (among_all (k + 1) count lender ps b (omega (arith, le)))

other_hand : (k j : ℕ) → (k ≡ j → ⊥) → bit (k == j) ≡ 0
other_hand k j off = split (eqb_tells k j)
  where
    split : ((eqb k j ≡ true) × (k ≡ j)) ⊎ ((eqb k j ≡ false) × (k ≢ j)) → bit (k == j) ≡ 0
    split (inl h) = absurd (off h.1)
    split (inr h) = ap bit h.0

first_with : (s : Bool) (lender k j d : ℕ) (P : Place) → (s ≡ true → bit (k == j) ≡ d) → (s ≡ false → is_with lender j P ≡ d) → is_with lender j (cond s (At (InHand k)) P) ≡ d
first_with true lender k j d P here there = here refl
first_with false lender k j d P here there = there refl

-- nobody before the first of some actors has it
before_first : (lender k j : ℕ) (ps : List Keeper) (b : Buffer) → j < k → is_with lender j (first_place k ps b) ≡ 0
before_first lender k j [] b lt = refl
before_first lender k j (p ∷ ps) b lt = first_with (nat_lt 0 (at_start p.hand b)) lender k j 0 (first_place (k + 1) ps b) (λ yes. other_hand k j (λ e. omega (arith, e, lt))) (λ no. before_first lender (k + 1) j ps b (omega (arith, lt)))

started_few : (ps : List Keeper) (b : Buffer) (i : ℕ) (p : Keeper) → slice_get ps i ≡ Some p → at_start p.hand b ≤ sum_by (λ q. at_start q.hand b) ps
started_few [] b i p at = cc
started_few (q ∷ ps) b zero p at =
    let e : q ≡ p = cc in
    let same : at_start q.hand b ≡ at_start p.hand b = ap (λ (x : Keeper). at_start x.hand b) e in
    omega (arith, same, sum_by-cons (λ x. at_start x.hand b) q ps)
started_few (q ∷ ps) b (suc i) p at = omega (arith, started_few ps b i p at, sum_by-cons (λ x. at_start x.hand b) q ps)

-- who has it at the start has it in the table
first_has : (lender k : ℕ) (ps : List Keeper) (b : Buffer) → sum_by (λ q. at_start q.hand b) ps ≤ 1 → (i : ℕ) (p : Keeper) → slice_get ps i ≡ Some p → is_with lender (k + i) (first_place k ps b) ≡ at_start p.hand b
first_has lender k [] b few i p at = cc
first_has lender k (q ∷ ps) b few zero p at =
    let e : q ≡ p = cc in
    let same : at_start q.hand b ≡ at_start p.hand b = ap (λ (x : Keeper). at_start x.hand b) e in
    let self : bit (k == k + 0) ≡ 1 = ap bit (eq-eqb k (k + 0) (omega arith)) in
    first_with (nat_lt 0 (at_start q.hand b)) lender k (k + 0) (at_start p.hand b) (first_place (k + 1) ps b)
    (λ yes. omega (arith, self, same, few, ltb-true 0 (at_start q.hand b) yes, sum_by-cons (λ x. at_start x.hand b) q ps))
    (λ no. omega (arith, same, ltb-false 0 (at_start q.hand b) no, before_first lender (k + 1) (k + 0) ps b (omega arith)))
first_has lender k (q ∷ ps) b few (suc i) p at =
    let less : sum_by (λ x. at_start x.hand b) ps ≤ 1 = omega (arith, few, sum_by-cons (λ x. at_start x.hand b) q ps) in
    let place : k + 1 + i ≡ k + suc i = omega arith in
    first_with (nat_lt 0 (at_start q.hand b)) lender k (k + suc i) (at_start p.hand b) (first_place (k + 1) ps b)
    (λ yes. omega (arith, other_hand k (k + suc i) (λ e. omega (arith, e)), few, ltb-true 0 (at_start q.hand b) yes, started_few ps b i p at, sum_by-cons (λ x. at_start x.hand b) q ps))
    (λ no. ap (λ j. is_with lender j (first_place (k + 1) ps b)) (sym place) ∙ first_has lender (k + 1) ps b less i p at)

-- nothing went through the queues
history_start : (rows : List QueueRow) (n : ℕ) → history_at (start_history rows) n ≡ start_track
history_start [] n = refl
history_start (row ∷ rows) zero = refl
history_start (row ∷ rows) (suc n) = history_start rows n

module _ (naming : Naming) (rows : List QueueRow) where
  abbrev m : Moved
  m = moved (start_history rows) []

  none_sent : (f : Thing → ℕ) (n : ℕ) → sum_by f (things_sent naming m n) ≡ 0
  none_sent f n = ap (λ (t : Track). sum_by f (things_from (naming n) (requests_of (naming n) m) 0 t.sent)) (history_start rows n)

  none_taken : (f : Thing → ℕ) (n : ℕ) → sum_by f (things_taken naming m n) ≡ 0
  none_taken f n = ap (λ (t : Track). sum_by f (things_from (naming n) (requests_of (naming n) m) 0 t.taken)) (history_start rows n)

  role_in : (f : Thing → ℕ) (r : Role) (n : ℕ) → sum_by f (by_role r (things_taken naming m n) []) ≡ 0
  role_in f Consumer n = none_taken f n
  role_in f Producer n = refl

  role_out : (f : Thing → ℕ) (r : Role) (n : ℕ) → sum_by f (by_role r [] (things_sent naming m n)) ≡ 0
  role_out f Consumer n = refl
  role_out f Producer n = none_sent f n

  none_came : (f : Thing → ℕ) (ends : List Seat) → sum_by f (all_taken naming m ends) ≡ 0
  none_came f ends = sum_flat f (things_in naming m) ends ∙ sum_none (λ s. sum_by f (things_in naming m s)) ends (λ i s at. role_in f s.role s.queue)

  none_went : (f : Thing → ℕ) (ends : List Seat) → sum_by f (all_put naming m ends) ≡ 0
  none_went f ends = sum_flat f (things_out naming m) ends ∙ sum_none (λ s. sum_by f (things_out naming m s)) ends (λ i s at. role_out f s.role s.queue)

pub start_shown : (naming : Naming) (lender : ℕ) (rows : List QueueRow) (keepers : List Keeper) → AreDealt keepers → IsShownBy naming lender keepers (moved (start_history rows) []) (start_table keepers)
start_shown naming lender rows keepers dealt = record {
  queued = λ n b. omega (arith, none_taken naming rows (as_buffer b) n, none_sent naming rows (as_buffer b) n, no_queue 0 n keepers b);
  leases_queued = λ n b. omega (arith, none_taken naming rows (as_lease b) n, none_sent naming rows (as_lease b) n);
  held = λ k p b at. omega (arith, none_went naming rows (as_buffer b) p.ends, none_came naming rows (as_buffer b) p.ends, has k p b at);
  leases_held = λ k p b at. omega (arith, none_went naming rows (as_lease b) p.ends, none_came naming rows (brings_leases b) p.ends);
  lent = λ p b at. omega (arith, none_came naming rows (gives_back b) p.ends, none_came naming rows (lends b) p.ends, no_receivers 0 keepers b);
  among = λ b. among_all 0 (length keepers) lender keepers b (omega arith);
}
  where
    has : (k : ℕ) (p : Keeper) (b : Buffer) → slice_get keepers k ≡ Some p → is_with lender k (first_place 0 keepers b) ≡ at_start p.hand b
    has k p b at =
        let place : 0 + k ≡ k = omega arith in
        ap (λ j. is_with lender j (first_place 0 keepers b)) (sym place) ∙ first_has lender 0 keepers b (dealt b) k p at

first_there : (s : Bool) (k : ℕ) (P : Place) → (s ≡ false → P ≡ Nowhere → ⊥) → cond s (At (InHand k)) P ≡ Nowhere → ⊥
first_there true k P later h = cc
first_there false k P later h = later refl h

somewhere : (k : ℕ) (ps : List Keeper) (b : Buffer) → 1 ≤ sum_by (λ q. at_start q.hand b) ps → first_place k ps b ≡ Nowhere → ⊥
somewhere k [] b some h = absurd (omega (arith, some))
somewhere k (p ∷ ps) b some h = first_there (nat_lt 0 (at_start p.hand b)) k (first_place (k + 1) ps b) (λ out. somewhere (k + 1) ps b (omega (arith, some, ltb-false 0 (at_start p.hand b) out, sum_by-cons (λ x. at_start x.hand b) p ps))) h

pub start_pools : (keepers : List Keeper) (pool buffers : ℕ) → ((i : ℕ) → i < buffers → 1 ≤ sum_by (λ p. at_start p.hand (record { pool = pool; no = i })) keepers) → IsPool (start_table keepers) pool buffers
start_pools keepers pool buffers some = λ i lt. somewhere 0 keepers (record { pool = pool; no = i }) (some i lt)

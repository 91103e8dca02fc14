use Rattle.std.proofs.Common.{◌≡◌, ◌⊎◌, ◌+◌, ◌<◌, ◌≤◌, ℕ, Bool, true, false, cond, nat_lt, List, [], ◌∷◌, length, sum_by, refl, sym, subst, arith, inl, inr, ltb-true}
use Rattle.std.proofs.lemmas.List.Sums.{sum_by-cons}
use Rattle.wire_core.specs.declared.names.QueueRow.{QueueRow}
use Rattle.wire_core.specs.declared.names.Entry.{Entry}
use Rattle.wire_core.specs.Ends.{Consumer}
use Rattle.wire_core.specs.Journal.{History, Hostiles}
use Rattle.play_core.specs.Moved.{Moved, moved}
use Rattle.play_core.specs.Still.{Holds, IsPeopled}
use Rattle.owner_law.specs.Things.{Buffer, Names, NoBuffers, Naming, Thing, Nothing, things_from, requests_of, things_sent, things_taken, as_buffer, as_lease}
use Rattle.owner_law.specs.Owners.{Nowhere, At, InHand, AreCounted}
use Rattle.owner_law.specs.Keeping.{Keeper, at_start, first_place, start_table, AreDealt, IsNaming, IsShownBy}
use Rattle.owner_law.specs.Shown.{shown_table}
use Rattle.owner_law.specs.Census.{IsPool}
use Rattle.owner_law.proofs.Counting.{nothing_sum}
use Rattle.owner_law.proofs.Adopted.{table_shown, pools_shown}
use Rattle.owner_law.specs.Counts.Keeping.{KeepTheirs}
use Rattle.owner_law.proofs.CountsLemmas.Wholes.{all_whole, one_place}

-- a buffer that has a place at the start is in a hand
start_some : (k : ℕ) (keepers : List Keeper) (b : Buffer) → (first_place k keepers b ≡ Nowhere → ⊥) → 1 ≤ sum_by (λ p. at_start p.hand b) keepers
start_some k [] b some = absurd (some refl)
start_some k (p ∷ keepers) b some = by (nat_lt 0 (at_start p.hand b)) refl some (λ there. start_some (k + 1) keepers b there)
  where
    by : (t : Bool) → nat_lt 0 (at_start p.hand b) ≡ t → (cond t (At (InHand k)) (first_place (k + 1) keepers b) ≡ Nowhere → ⊥) → ((first_place (k + 1) keepers b ≡ Nowhere → ⊥) → 1 ≤ sum_by (λ (q : Keeper). at_start q.hand b) keepers) → 1 ≤ sum_by (λ (q : Keeper). at_start q.hand b) (p ∷ keepers)
    by true is there rest = omega (arith, sum_by-cons (λ (q : Keeper). at_start q.hand b) p keepers, ltb-true 0 (at_start p.hand b) is)
    by false is there rest = omega (arith, sum_by-cons (λ (q : Keeper). at_start q.hand b) p keepers, rest there)

-- where each buffer of a pool was in a hand at the start, each has a place by the lists
pub pools_stay : (naming : Naming) (lender : ℕ) (hostile : Hostiles) (history : History) (rows : List QueueRow) (keepers : List Keeper) (journal : List Entry) → KeepTheirs naming lender hostile history rows keepers journal → (pool buffers : ℕ) → IsPool (start_table keepers) pool buffers → IsPool (shown_table naming lender keepers (length rows) (moved history journal)) pool buffers
pools_stay naming lender hostile history rows keepers journal theirs pool buffers all = pools_shown naming lender keepers (length rows) (moved history journal) pool buffers (λ i lt.
    let b : Buffer = record { pool = pool; no = i } in
    omega (arith, all_whole naming lender hostile history rows keepers journal theirs b, start_some 0 keepers b (all i lt)))

-- where there is nobody, nothing passed, and the table without places is shown
pub nobody_shown : (naming : Naming) (lender : ℕ) (hostile : Hostiles) (queues : List QueueRow) (m : Moved) → IsNaming naming lender hostile queues → IsPeopled queues 0 → IsShownBy naming lender [] m (start_table [])
nobody_shown naming lender hostile rows m is peopled = record {
  queued = λ n b. let a = sent_none (as_buffer b) refl n in let c = taken_none (as_buffer b) refl n in omega (arith, a, c);
  leases_queued = λ n b. let a = sent_none (as_lease b) refl n in let c = taken_none (as_lease b) refl n in omega (arith, a, c);
  held = λ k p b at. cc;
  leases_held = λ k p b at. cc;
  lent = λ p b at. cc;
  among = λ b. tt;
}
  where
    unnamed : (n : ℕ) → naming n ≡ NoBuffers
    unnamed n = by (is.calm n)
      where
        by : (naming n ≡ NoBuffers) ⊎ Holds hostile rows n 0 → naming n ≡ NoBuffers
        by (inl none) = none
        by (inr holds) = absurd (let lt = peopled n holds.row holds.there Consumer in omega (arith, lt))

    sent_none : (f : Thing → ℕ) → f Nothing ≡ 0 → (n : ℕ) → sum_by f (things_sent naming m n) ≡ 0
    sent_none f none n = subst (λ (x : Names). sum_by f (things_from x (requests_of x m) 0 (m.sent n)) ≡ 0) (sym (unnamed n)) (nothing_sum f none [] 0 (m.sent n))

    taken_none : (f : Thing → ℕ) → f Nothing ≡ 0 → (n : ℕ) → sum_by f (things_taken naming m n) ≡ 0
    taken_none f none n = subst (λ (x : Names). sum_by f (things_from x (requests_of x m) 0 (m.taken n)) ≡ 0) (sym (unnamed n)) (nothing_sum f none [] 0 (m.taken n))

-- a system that takes over what such actors left begins with the table that their lists show
pub table_past : (naming : Naming) (lender : ℕ) (hostile : Hostiles) (history : History) (rows : List QueueRow) (keepers : List Keeper) → KeepTheirs naming lender hostile history rows keepers [] → AreDealt keepers → lender < length keepers → IsShownBy naming lender keepers (moved history []) (shown_table naming lender keepers (length rows) (moved history [])) × AreCounted (shown_table naming lender keepers (length rows) (moved history []))
table_past naming lender hostile history rows keepers theirs dealt there = table_shown naming lender hostile history rows keepers theirs.naming_is theirs.flows theirs.keeps there (one_place naming lender hostile history rows keepers [] theirs dealt)

use Rattle.std.proofs.Common.{◌≡◌, ◌⊎◌, ◌==◌, ◌+◌, ◌-◌, ◌<◌, ◌≤◌, ℕ, Bool, true, false, Option, None, Some, List, [], ◌∷◌, ◌++◌, length, slice_get, sum_by, refl, sym, ap, ◌∙◌, subst, arith, inl, inr}
use Rattle.std.proofs.lemmas.List.Sums.{sum_by-cons}
use Rattle.cargo_core.specs.Lists.{IsPrefix}
use Rattle.cargo_core.specs.declared.item.Item.{Item}
use Rattle.wire_core.specs.declared.names.QueueRow.{QueueRow}
use Rattle.wire_core.specs.declared.names.Entry.{Entry}
use Rattle.wire_core.specs.Ends.{Consumer}
use Rattle.wire_core.specs.Marks.{sum_below}
use Rattle.wire_core.specs.Journal.{History, Hostiles}
use Rattle.play_core.specs.Moved.{Moved, moved, sent, taken}
use Rattle.play_core.specs.Still.{Holds}
use Rattle.play_core.proofs.Lists.{there_is}
use Rattle.owner_law.specs.Things.{Buffer, Names, NoBuffers, Buffers, Frames, Leases, Returns, Answers, Naming, Thing, Nothing, Whole, Frame, Lease, Return, thing_of, thing_at, buffer_of, requested, things_from, requests_of, things_sent, things_taken, as_buffer, as_lease, lends, gives_back, brings_leases}
use Rattle.owner_law.specs.Keeping.{Keeper, at_start, all_taken, all_put, AreDealt, is_lending}
use Rattle.owner_law.specs.Shown.{buffers_left, leases_left, buffers_with, leases_with, of_actor, HaveOnePlace}
use Rattle.owner_law.proofs.Sums.{when, when_none, sum_both, sum_one}
use Rattle.owner_law.proofs.Lists.{sum_things}
use Rattle.owner_law.proofs.Counting.{below_plus, below_same, below_none, nothing_sum}
use Rattle.owner_law.specs.Counts.Keeping.{KeepTheirs}
use Rattle.owner_law.proofs.CountsLemmas.Seats.{sum_same, sum_places, owner_at, owner_is, when_off, took_sum, all_went, all_came}

-- of each thing, what its take brings in leases or gives back is a lease or lends
leases_even : (b : Buffer) (x : Thing) → brings_leases b x + gives_back b x ≡ as_lease b x + lends b x
leases_even b Nothing = refl
leases_even b (Whole c) = refl
leases_even b (Frame c r) = omega arith
leases_even b (Lease c) = refl
leases_even b (Return c) = omega arith

sums_even : (b : Buffer) (xs : List Thing) → sum_by (brings_leases b) xs + sum_by (gives_back b) xs ≡ sum_by (as_lease b) xs + sum_by (lends b) xs
sums_even b [] = refl
sums_even b (x ∷ xs) = omega (arith, sum_by-cons (brings_leases b) x xs, sum_by-cons (gives_back b) x xs, sum_by-cons (as_lease b) x xs, sum_by-cons (lends b) x xs, leases_even b x, sums_even b xs)

-- this counts only what lends or gives back
record OfLending (f : Thing → ℕ) : Type 0 where
  pub nothing : f Nothing ≡ 0
  pub whole : (b : Buffer) → f (Whole b) ≡ 0
  pub lease : (b : Buffer) → f (Lease b) ≡ 0

-- so it counts nothing of a queue from which nobody lends
keeps_none : (f : Thing → ℕ) → OfLending f → (names : Names) → is_lending names ≡ false → (rs : List Item) (k : ℕ) (i : Item) → f (thing_at names rs k i) ≡ 0
keeps_none f of NoBuffers is rs k i = of.nothing
keeps_none f of (Buffers ws) is rs k i = by (buffer_of ws i)
  where
    by : (o : Option Buffer) → f (thing_of Whole o) ≡ 0
    by None = of.nothing
    by (Some b) = of.whole b
keeps_none f of (Frames ws receivers) is rs k i = cc
keeps_none f of (Leases ws) is rs k i = by (buffer_of ws i)
  where
    by : (o : Option Buffer) → f (thing_of Lease o) ≡ 0
    by None = of.nothing
    by (Some b) = of.lease b
keeps_none f of (Returns ws) is rs k i = cc
keeps_none f of (Answers q ws) is rs k i = by (requested ws rs k)
  where
    by : (o : Option Buffer) → f (thing_of Whole o) ≡ 0
    by None = of.nothing
    by (Some b) = of.whole b

none_kept : (f : Thing → ℕ) → OfLending f → (names : Names) → is_lending names ≡ false → (rs : List Item) (k : ℕ) (items : List Item) → sum_by f (things_from names rs k items) ≡ 0
none_kept f of names is rs k [] = refl
none_kept f of names is rs k (i ∷ items) = omega (arith, sum_by-cons f (thing_at names rs k i) (things_from names rs (k + 1) items), keeps_none f of names is rs k i, none_kept f of names is rs (k + 1) items)

module _ (naming : Naming) (lender : ℕ) (hostile : Hostiles) (history : History) (rows : List QueueRow) (keepers : List Keeper) (journal : List Entry) (theirs : KeepTheirs naming lender hostile history rows keepers journal) where
  abbrev m : Moved
  m = moved history journal

  -- what was taken from a queue is no more than what was put there
  taken_few : (f : Thing → ℕ) → f Nothing ≡ 0 → (n : ℕ) → sum_by f (things_taken naming m n) ≤ sum_by f (things_sent naming m n)
  taken_few f none n = by (theirs.naming_is.calm n)
    where
      by : (naming n ≡ NoBuffers) ⊎ Holds hostile rows n 0 → sum_by f (things_taken naming m n) ≤ sum_by f (things_sent naming m n)
      by (inl h) =
          let zero_ : sum_by f (things_taken naming m n) ≡ 0 = subst (λ (x : Names). sum_by f (things_from x (requests_of x m) 0 (m.taken n)) ≡ 0) (sym h) (nothing_sum f none [] 0 (m.taken n)) in
          omega (arith, zero_)
      by (inr h) =
          let begins : IsPrefix (taken history n journal) (sent history n journal) = (theirs.flows n h.row h.there).begins in
          let rs = requests_of (naming n) m in
          let whole : sum_by f (things_from (naming n) rs 0 (taken history n journal ++ begins.0)) ≡ sum_by f (things_sent naming m n) = ap (λ xs. sum_by f (things_from (naming n) rs 0 xs)) begins.1 in
          omega (arith, sum_things f (naming n) rs (taken history n journal) begins.0, whole)

  -- what stands in all queues is what was put and not taken
  all_left : (f : Thing → ℕ) → f Nothing ≡ 0 → sum_below (λ n. sum_by f (things_sent naming m n) - sum_by f (things_taken naming m n)) (length rows) + sum_below (λ n. sum_by f (things_taken naming m n)) (length rows) ≡ sum_below (λ n. sum_by f (things_sent naming m n)) (length rows)
  all_left f none =
      sym (below_plus (λ n. sum_by f (things_sent naming m n) - sum_by f (things_taken naming m n)) (λ n. sum_by f (things_taken naming m n)) (length rows))
      ∙ below_same (λ n. sum_by f (things_sent naming m n) - sum_by f (things_taken naming m n) + sum_by f (things_taken naming m n)) (λ n. sum_by f (things_sent naming m n)) (length rows) (λ n lt. omega (arith, taken_few f none n))

  -- a sum over the actors' places, of what each has beside what it put
  with_all : (has put came : Keeper → ℕ) → ((k : ℕ) (p : Keeper) → slice_get keepers k ≡ Some p → came p ≡ put p + has p) → sum_by came keepers ≡ sum_by put keepers + sum_below (of_actor keepers has) (length keepers)
  with_all has put came each =
      sum_same came (λ p. put p + has p) keepers each
      ∙ (sum_both put (λ p. put p + has p) has (λ p. refl) keepers
      ∙ ap (λ x. sum_by put keepers + x) (sum_places has keepers))

  module _ (b : Buffer) where
    -- each buffer is as often in queues and hands together as it was in hands at the start
    pub all_whole : sum_below (buffers_left naming m b) (length rows) + sum_below (of_actor keepers (buffers_with naming m b)) (length keepers) ≡ sum_by (λ p. at_start p.hand b) keepers
    all_whole =
        let put : Keeper → ℕ = λ p. sum_by (as_buffer b) (all_put naming m p.ends) in
        let took : Keeper → ℕ = λ p. sum_by (as_buffer b) (all_taken naming m p.ends) in
        let had : Keeper → ℕ = λ p. at_start p.hand b in
        let both : sum_by (λ p. had p + took p) keepers ≡ sum_by had keepers + sum_by took keepers = sum_both had (λ p. had p + took p) took (λ p. refl) keepers in
        let hands : sum_by (λ p. had p + took p) keepers ≡ sum_by put keepers + sum_below (of_actor keepers (buffers_with naming m b)) (length keepers) = with_all (buffers_with naming m b) put (λ p. had p + took p) (λ k p at. omega (arith, (theirs.keeps k p at).buffers b)) in
        omega (arith, both, hands, all_left (as_buffer b) refl, all_went naming m (as_buffer b) rows keepers theirs.keepers_are, all_came naming m (as_buffer b) rows keepers theirs.keepers_are)

    -- only the lender takes what lends or gives back
    others_none : (f : Thing → ℕ) → OfLending f → (k : ℕ) (p : Keeper) → slice_get keepers k ≡ Some p → (k ≡ lender → ⊥) → sum_by f (all_taken naming m p.ends) ≡ 0
    others_none f of k p at off = took_sum naming m f rows keepers theirs.keepers_are k p at ∙ below_none (λ n. when (owner_at rows Consumer n == k) (sum_by f (things_taken naming m n))) (length rows) each
      where
        each : (n : ℕ) → n < length rows → when (owner_at rows Consumer n == k) (sum_by f (things_taken naming m n)) ≡ 0
        each n lt = by (is_lending (naming n)) refl
          where
            by : (x : Bool) → is_lending (naming n) ≡ x → when (owner_at rows Consumer n == k) (sum_by f (things_taken naming m n)) ≡ 0
            by false keep = ap (when (owner_at rows Consumer n == k)) (none_kept f of (naming n) keep (requests_of (naming n) m) 0 (m.taken n)) ∙ when_none (owner_at rows Consumer n == k)
            by true lend =
                let row = there_is rows n lt in
                let his : owner_at rows Consumer n ≡ lender = owner_is rows n row.0 Consumer row.1 ∙ theirs.naming_is.lends n row.0 row.1 lend in
                when_off (owner_at rows Consumer n) k (sum_by f (things_taken naming m n)) (λ e. off (sym e ∙ his))

    lenders_alone : (f : Thing → ℕ) → OfLending f → (p : Keeper) → slice_get keepers lender ≡ Some p → sum_by (λ (q : Keeper). sum_by f (all_taken naming m q.ends)) keepers ≡ sum_by f (all_taken naming m p.ends)
    lenders_alone f of p at = sum_one (λ (q : Keeper). sum_by f (all_taken naming m q.ends)) (sum_by f (all_taken naming m p.ends)) keepers lender p at refl (λ k q q_at off. others_none f of k q q_at off)

    -- of a buffer that is lent there are as many leases as receivers that have it yet to give back
    pub all_leases : (p : Keeper) → slice_get keepers lender ≡ Some p → sum_by (gives_back b) (all_taken naming m p.ends) + (sum_below (leases_left naming m b) (length rows) + sum_below (of_actor keepers (leases_with naming m b)) (length keepers)) ≡ sum_by (lends b) (all_taken naming m p.ends)
    all_leases p at =
        let put : Keeper → ℕ = λ q. sum_by (as_lease b) (all_put naming m q.ends) in
        let brought : Keeper → ℕ = λ q. sum_by (brings_leases b) (all_taken naming m q.ends) in
        let back : Keeper → ℕ = λ q. sum_by (gives_back b) (all_taken naming m q.ends) in
        let took : Keeper → ℕ = λ q. sum_by (as_lease b) (all_taken naming m q.ends) in
        let lent : Keeper → ℕ = λ q. sum_by (lends b) (all_taken naming m q.ends) in
        let hands : sum_by brought keepers ≡ sum_by put keepers + sum_below (of_actor keepers (leases_with naming m b)) (length keepers) = with_all (leases_with naming m b) put brought (λ k q q_at. omega (arith, (theirs.keeps k q q_at).leases b)) in
        let one : sum_by (λ q. brought q + back q) keepers ≡ sum_by brought keepers + sum_by back keepers = sum_both brought (λ q. brought q + back q) back (λ q. refl) keepers in
        let two : sum_by (λ q. took q + lent q) keepers ≡ sum_by took keepers + sum_by lent keepers = sum_both took (λ q. took q + lent q) lent (λ q. refl) keepers in
        let even : sum_by (λ q. brought q + back q) keepers ≡ sum_by (λ q. took q + lent q) keepers = sum_same (λ q. brought q + back q) (λ q. took q + lent q) keepers (λ i q q_at. sums_even b (all_taken naming m q.ends)) in
        omega (
          arith,
          hands,
          one,
          two,
          even,
          all_left (as_lease b) refl,
          all_went naming m (as_lease b) rows keepers theirs.keepers_are,
          all_came naming m (as_lease b) rows keepers theirs.keepers_are,
          lenders_alone (gives_back b) (record { nothing = refl; whole = λ c. refl; lease = λ c. refl }) p at,
          lenders_alone (lends b) (record { nothing = refl; whole = λ c. refl; lease = λ c. refl }) p at,
        )

  -- so each buffer has at most one place
  pub one_place : AreDealt keepers → HaveOnePlace naming lender keepers (length rows) m
  one_place dealt = record {
    once = λ b. omega (arith, all_whole b, dealt b);
    leases = λ b p at. all_leases b p at;
  }

use Rattle.std.proofs.Common.{◌≡◌, ◌≢◌, ◌⊎◌, inl, inr, ◌==◌, ◌+◌, ◌*◌, ◌<◌, ◌≤◌, ℕ, zero, suc, true, false, Option, Some, None, List, [], ◌∷◌, length, slice_get, refl, sym, ap, ◌∙◌, subst, arith}
use Rattle.std.proofs.Math.Dec.{eqb}
use Rattle.std.proofs.lemmas.Bool.Decides.{eqb_tells}
use Rattle.wire_core.specs.declared.names.QueueRow.{QueueRow}
use Rattle.wire_core.specs.Bells.{bit}
use Rattle.wire_core.specs.Marks.{sum_below, ends_of}
use Rattle.bus_law.specs.I2cActors.Queues.{AreQueues, GoesAt}
use Rattle.bus_law.proofs.Hopping.{sum_front, sum_pairs, sum_four}

-- How many ends an actor of a bus has.

-- those at a queue, if it is there
abbrev ends_at : ℕ → Option QueueRow → ℕ
ends_at a None = 0
ends_at a (Some row) = bit (row.consumer.0 == a) + bit (row.producer.0 == a)

ends_are : (a : ℕ) (rows : List QueueRow) → ends_of a rows ≡ sum_below (λ i. ends_at a (slice_get rows i)) (length rows)
ends_are a [] = refl
ends_are a (row ∷ rows) = let e = ends_are a rows in let h = sum_front (λ i. ends_at a (slice_get (row ∷ rows) i)) (length rows) in omega (arith, e, h)

-- one of the two at most is this actor
one_end : (p q a : ℕ) → p ≢ q → bit (q == a) + bit (p == a) ≤ 1
one_end p q a apart = by (eqb_tells q a) (eqb_tells p a)
  where
    by : ((eqb q a ≡ true) × (q ≡ a)) ⊎ ((eqb q a ≡ false) × (q ≢ a)) → ((eqb p a ≡ true) × (p ≡ a)) ⊎ ((eqb p a ≡ false) × (p ≢ a)) → bit (q == a) + bit (p == a) ≤ 1
    by (inl h) (inl k) = absurd (apart (k.1 ∙ sym h.1))
    by (inl h) (inr k) = let e = ap bit h.0 in let f = ap bit k.0 in omega (arith, e, f)
    by (inr h) (inl k) = let e = ap bit h.0 in let f = ap bit k.0 in omega (arith, e, f)
    by (inr h) (inr k) = let e = ap bit h.0 in let f = ap bit k.0 in omega (arith, e, f)

no_end : (p q a : ℕ) → p ≢ a → q ≢ a → bit (q == a) + bit (p == a) ≤ 0
no_end p q a np nq = by (eqb_tells q a) (eqb_tells p a)
  where
    by : ((eqb q a ≡ true) × (q ≡ a)) ⊎ ((eqb q a ≡ false) × (q ≢ a)) → ((eqb p a ≡ true) × (p ≡ a)) ⊎ ((eqb p a ≡ false) × (p ≢ a)) → bit (q == a) + bit (p == a) ≤ 0
    by (inl h) k = absurd (nq h.1)
    by (inr h) (inl k) = absurd (np k.1)
    by (inr h) (inr k) = let e = ap bit h.0 in let f = ap bit k.0 in omega (arith, e, f)

differ : (p q : ℕ) → p < q → p ≢ q
differ p q lt same = absurd (omega (arith, lt, same))

module _ (n : ℕ) (rows : List QueueRow) (queues : AreQueues n rows) (some : 0 < n) (a : ℕ) where
  abbrev f : ℕ → ℕ
  f i = ends_at a (slice_get rows i)

  at_queue : (i p q capacity : ℕ) → GoesAt rows i p q capacity → f i ≡ bit (q == a) + bit (p == a)
  at_queue i p q capacity g = ap (ends_at a) g.at ∙ (ap (λ m. bit (m == a) + bit (g.row.producer.0 == a)) g.is.consumer_is ∙ ap (λ m. bit (q == a) + bit (m == a)) g.is.producer_is)

  one_at : (i p q capacity : ℕ) → GoesAt rows i p q capacity → p ≢ q → f i ≤ 1
  one_at i p q capacity g apart = subst (λ m. m ≤ 1) (sym (at_queue i p q capacity g)) (one_end p q a apart)

  none_at : (i p q capacity : ℕ) → GoesAt rows i p q capacity → p ≢ a → q ≢ a → f i ≤ 0
  none_at i p q capacity g np nq = subst (λ m. m ≤ 0) (sym (at_queue i p q capacity g)) (no_end p q a np nq)

  other_way : (p q : ℕ) → p < q → q ≢ p
  other_way p q lt same = absurd (omega (arith, lt, same))

  -- at the clients' queues
  two_each : sum_below f (2 * n) ≤ 2 * n
  two_each =
      let s = sum_pairs f (λ c. 1) n (λ c lt. one_at (2 * c) c n 2 (queues.of_clients.requests c lt) (differ c n lt)) (λ c lt. one_at (2 * c + 1) n c 2 (queues.of_clients.replies c lt) (other_way c n lt)) in
      let o = ones n in
      omega (arith, s, o)
    where
      ones : (k : ℕ) → sum_below (λ c. 1) k ≡ k
      ones zero = refl
      ones (suc k) = let e = ones k in omega (arith, e)

  none_each : n < a → sum_below f (2 * n) ≤ 0
  none_each lt =
      let s = sum_pairs f (λ c. 0) n (λ c below. none_at (2 * c) c n 2 (queues.of_clients.requests c below) (λ e. absurd (omega (arith, below, lt, e))) (differ n a lt)) (λ c below. none_at (2 * c + 1) n c 2 (queues.of_clients.replies c below) (differ n a lt) (λ e. absurd (omega (arith, below, lt, e)))) in
      let o = noughts n in
      omega (arith, s, o)
    where
      noughts : (k : ℕ) → sum_below (λ c. 0) k ≡ 0
      noughts zero = refl
      noughts (suc k) = let e = noughts k in omega (arith, e)

  step : (k : ℕ) → k ≢ k + 1
  step k e = absurd (omega (arith, e))

  back : (k : ℕ) → k + 1 ≢ k
  back k e = absurd (omega (arith, e))

  first : f (2 * n) ≤ 1
  first = one_at (2 * n) n (n + 1) 16 queues.to_driver (step n)

  second : f (2 * n + 1) ≤ 1
  second = one_at (2 * n + 1) (n + 1) n 16 queues.from_driver (back n)

  third : f (2 * n + 2) ≤ 1
  third = one_at (2 * n + 2) (n + 1) (n + 2) 16 queues.to_bus (λ e. absurd (omega (arith, e)))

  fourth : f (2 * n + 3) ≤ 1
  fourth = one_at (2 * n + 3) (n + 2) (n + 1) 16 queues.from_bus (λ e. absurd (omega (arith, e)))

  whole : ends_of a rows ≡ sum_below f (2 * n) + f (2 * n) + f (2 * n + 1) + f (2 * n + 2) + f (2 * n + 3)
  whole = ends_are a rows ∙ (ap (sum_below f) queues.many ∙ sum_four f (2 * n))

  -- the driver has four, and the bus two
  of_driver : a ≡ n + 1 → ends_of a rows ≤ 2 * n + 2
  of_driver is =
      let lt : n < a = omega (arith, is) in
      let z = none_each lt in
      let p = first in
      let q = second in
      let r = third in
      let s = fourth in
      let w = whole in
      let m = some in
      omega (arith, z, p, q, r, s, w, m)

  of_bus : a ≡ n + 2 → ends_of a rows ≤ 2 * n + 2
  of_bus is =
      let lt : n < a = omega (arith, is) in
      let z = none_each lt in
      let p = none_at (2 * n) n (n + 1) 16 queues.to_driver (λ e. absurd (omega (arith, e, is))) (λ e. absurd (omega (arith, e, is))) in
      let q = none_at (2 * n + 1) (n + 1) n 16 queues.from_driver (λ e. absurd (omega (arith, e, is))) (λ e. absurd (omega (arith, e, is))) in
      let r = third in
      let s = fourth in
      let w = whole in
      omega (arith, z, p, q, r, s, w)

  of_another : a ≢ n + 1 → a ≢ n + 2 → ends_of a rows ≤ 2 * n + 2
  of_another no_driver no_bus =
      let z = two_each in
      let p = first in
      let q = second in
      let r = none_at (2 * n + 2) (n + 1) (n + 2) 16 queues.to_bus (λ e. no_driver (sym e)) (λ e. no_bus (sym e)) in
      let s = none_at (2 * n + 3) (n + 2) (n + 1) 16 queues.from_bus (λ e. no_bus (sym e)) (λ e. no_driver (sym e)) in
      let w = whole in
      omega (arith, z, p, q, r, s, w)

  pub few_ends : ends_of a rows ≤ 2 * n + 2
  few_ends = by (eqb_tells a (n + 1)) (eqb_tells a (n + 2))
    where
      by : ((eqb a (n + 1) ≡ true) × (a ≡ n + 1)) ⊎ ((eqb a (n + 1) ≡ false) × (a ≢ n + 1)) → ((eqb a (n + 2) ≡ true) × (a ≡ n + 2)) ⊎ ((eqb a (n + 2) ≡ false) × (a ≢ n + 2)) → ends_of a rows ≤ 2 * n + 2
      by (inl h) k = of_driver h.1
      by (inr h) (inl k) = of_bus k.1
      by (inr h) (inr k) = of_another h.1 k.1

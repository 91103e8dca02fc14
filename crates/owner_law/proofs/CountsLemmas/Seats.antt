use Rattle.std.proofs.Common.{◌≡◌, ◌⊎◌, ◌≢◌, ◌==◌, ◌&&◌, ◌+◌, ◌<◌, ℕ, zero, suc, Bool, true, false, Option, None, Some, List, [], ◌∷◌, length, slice_get, sum_by, refl, sym, ap, ◌∙◌, subst, arith, eq-eqb, inl, inr}
use Rattle.std.proofs.Math.Dec.{eqb}
use Rattle.std.proofs.lemmas.Bool.Decides.{eqb_tells}
use Rattle.std.proofs.lemmas.List.Sums.{sum_by-cons}
use Rattle.wire_core.specs.declared.names.QueueRow.{QueueRow}
use Rattle.wire_core.specs.Ends.{Role, Consumer, Producer}
use Rattle.wire_core.specs.Marks.{is_role, sum_below}
use Rattle.wire_core.specs.Journal.{owner_of}
use Rattle.play_core.specs.Moved.{Moved, Seat}
use Rattle.play_core.proofs.Lists.{there_is, there_below}
use Rattle.owner_law.specs.Things.{Naming, Thing, things_sent, things_taken}
use Rattle.owner_law.specs.Keeping.{Keeper, by_role, things_in, things_out, all_taken, all_put, AreKeepers}
use Rattle.owner_law.specs.Shown.{of_actor, number_of}
use Rattle.owner_law.proofs.Sums.{when, sum_flat, sum_both, sum_none}
use Rattle.owner_law.proofs.Counting.{below_same, below_one, below_swap}
use Rattle.owner_law.proofs.Ends.{is_its, share_sum}

-- terms are the same
pub sum_same : {X : Type 0} (f g : X → ℕ) (xs : List X) → ((i : ℕ) (x : X) → slice_get xs i ≡ Some x → f x ≡ g x) → sum_by f xs ≡ sum_by g xs
sum_same f g [] same = refl
sum_same f g (x ∷ xs) same = omega (arith, sum_by-cons f x xs, sum_by-cons g x xs, same 0 x refl, sum_same f g xs (λ i y at. same (suc i) y at))

-- a sum over a list of sums over the first numbers
sum_swap : {X : Type 0} (g : ℕ → X → ℕ) (count : ℕ) (xs : List X) → sum_by (λ x. sum_below (λ n. g n x) count) xs ≡ sum_below (λ n. sum_by (g n) xs) count
sum_swap g zero xs = sum_none (λ x. 0) xs (λ i x at. refl)
sum_swap g (suc c) xs = sum_both (λ x. sum_below (λ n. g n x) c) (λ x. sum_below (λ n. g n x) (suc c)) (g c) (λ x. refl) xs ∙ ap (λ s. s + sum_by (g c) xs) (sum_swap g c xs)

below_first : (f : ℕ → ℕ) (k : ℕ) → sum_below f (suc k) ≡ f 0 + sum_below (λ n. f (suc n)) k
below_first f zero = omega arith
below_first f (suc k) = omega (arith, below_first f k)

-- a sum over actors is one over their places
pub sum_places : (h : Keeper → ℕ) (ps : List Keeper) → sum_by h ps ≡ sum_below (of_actor ps h) (length ps)
sum_places h [] = refl
sum_places h (p ∷ ps) = omega (arith, sum_by-cons h p ps, below_first (of_actor (p ∷ ps) h) (length ps), sum_places h ps)

-- the owner of an end of queue n
abbrev row_owner : Option QueueRow → Role → ℕ
row_owner None r = 0
row_owner (Some row) r = owner_of row r

abbrev pub owner_at : List QueueRow → Role → ℕ → ℕ
owner_at rows r n = row_owner (slice_get rows n) r

pub owner_is : (rows : List QueueRow) (n : ℕ) (row : QueueRow) (r : Role) → slice_get rows n ≡ Some row → owner_at rows r n ≡ owner_of row r
owner_is rows n row r at = ap (λ (o : Option QueueRow). row_owner o r) at

and_true : (b c : Bool) (d : ℕ) → c ≡ true → when (b && c) d ≡ when b d
and_true true c d h = rw h refl
and_true false c d h = refl

and_false : (b c : Bool) (d : ℕ) → c ≡ false → when (b && c) d ≡ 0
and_false true c d h = rw h refl
and_false false c d h = refl

eqb_off : (a b : ℕ) → (a ≡ b → ⊥) → (a == b) ≡ false
eqb_off a b off = by (eqb_tells a b)
  where
    by : ((eqb a b ≡ true) × (a ≡ b)) ⊎ ((eqb a b ≡ false) × (a ≢ b)) → (a == b) ≡ false
    by (inl h) = absurd (off h.1)
    by (inr h) = h.0

pub when_off : (a b : ℕ) (d : ℕ) → (a ≡ b → ⊥) → when (a == b) d ≡ 0
when_off a b d off = ap (λ t. when t d) (eqb_off a b off)

pub when_on : (a b : ℕ) (d : ℕ) → a ≡ b → when (a == b) d ≡ d
when_on a b d same = ap (λ t. when t d) (eq-eqb a b same)

module _ (rows : List QueueRow) (keepers : List Keeper) (are : AreKeepers rows keepers) (r : Role) (g : ℕ → ℕ) where
  -- what passes at an actor's ends in one role is what passes at the queues where it has that end
  pub ends_sum : (k : ℕ) (p : Keeper) → slice_get keepers k ≡ Some p → sum_by (λ (s : Seat). when (is_role s.role r) (g s.queue)) p.ends ≡ sum_below (λ n. when (owner_at rows r n == k) (g n)) (length rows)
  ends_sum k p at =
      sum_same (λ (s : Seat). when (is_role s.role r) (g s.queue)) (λ s. sum_below (λ n. when (is_its r n s) (g n)) (length rows)) p.ends one_end
      ∙ (sum_swap (λ n s. when (is_its r n s) (g n)) (length rows) p.ends
      ∙ below_same (λ n. sum_by (λ s. when (is_its r n s) (g n)) p.ends) (λ n. when (owner_at rows r n == k) (g n)) (length rows) one_queue)
    where
      one_end : (i : ℕ) (s : Seat) → slice_get p.ends i ≡ Some s → when (is_role s.role r) (g s.queue) ≡ sum_below (λ n. when (is_its r n s) (g n)) (length rows)
      one_end i s s_at =
          let seat = are.seated k p at i s s_at in
          sym (below_one (λ n. when (is_its r n s) (g n)) (length rows) s.queue (when (is_role s.role r) (g s.queue)) (there_below rows s.queue seat.0 seat.1)
          (and_true (is_role s.role r) (s.queue == s.queue) (g s.queue) (eq-eqb s.queue s.queue refl))
          (λ n off. and_false (is_role s.role r) (n == s.queue) (g n) (eqb_off n s.queue (λ e. off (sym e)))))

      one_queue : (n : ℕ) → n < length rows → sum_by (λ s. when (is_its r n s) (g n)) p.ends ≡ when (owner_at rows r n == k) (g n)
      one_queue n lt =
          let row = there_is rows n lt in
          share_sum rows keepers are n row.0 row.1 r (g n) k p at ∙ ap (λ (o : Option QueueRow). when (row_owner o r == k) (g n)) (sym row.1)

  abbrev by_ends : Keeper → ℕ
  by_ends p = sum_by (λ (s : Seat). when (is_role s.role r) (g s.queue)) p.ends

  -- so what passes at all ends in that role is what passes at all queues
  pub all_ends : sum_by (λ (p : Keeper). sum_by (λ (s : Seat). when (is_role s.role r) (g s.queue)) p.ends) keepers ≡ sum_below g (length rows)
  all_ends =
      sum_places by_ends keepers
      ∙ (below_same (of_actor keepers by_ends) (λ k. sum_below (λ n. when (owner_at rows r n == k) (g n)) (length rows)) (length keepers) one_actor
      ∙ (below_swap (λ k n. when (owner_at rows r n == k) (g n)) (length keepers) (length rows)
      ∙ below_same (λ n. sum_below (λ k. when (owner_at rows r n == k) (g n)) (length keepers)) g (length rows) one_queue))
    where
      one_actor : (k : ℕ) → k < length keepers → of_actor keepers by_ends k ≡ sum_below (λ n. when (owner_at rows r n == k) (g n)) (length rows)
      one_actor k lt =
          let p = there_is keepers k lt in
          ap (λ o. number_of o by_ends) p.1 ∙ ends_sum k p.0 p.1

      one_queue : (n : ℕ) → n < length rows → sum_below (λ k. when (owner_at rows r n == k) (g n)) (length keepers) ≡ g n
      one_queue n lt =
          let row = there_is rows n lt in
          let few : owner_at rows r n < length keepers = subst (λ (o : Option QueueRow). row_owner o r < length keepers) (sym row.1) (are.peopled n row.0 row.1 r) in
          below_one (λ k. when (owner_at rows r n == k) (g n)) (length keepers) (owner_at rows r n) (g n) few (when_on (owner_at rows r n) (owner_at rows r n) (g n) refl) (λ k off. when_off (owner_at rows r n) k (g n) off)

out_is : (naming : Naming) (m : Moved) (f : Thing → ℕ) (r : Role) (n : ℕ) → sum_by f (by_role r [] (things_sent naming m n)) ≡ when (is_role r Producer) (sum_by f (things_sent naming m n))
out_is naming m f Consumer n = refl
out_is naming m f Producer n = refl

in_is : (naming : Naming) (m : Moved) (f : Thing → ℕ) (r : Role) (n : ℕ) → sum_by f (by_role r (things_taken naming m n) []) ≡ when (is_role r Consumer) (sum_by f (things_taken naming m n))
in_is naming m f Consumer n = refl
in_is naming m f Producer n = refl

module _ (naming : Naming) (m : Moved) (f : Thing → ℕ) where
  abbrev sent_of : ℕ → ℕ
  sent_of n = sum_by f (things_sent naming m n)

  abbrev taken_of : ℕ → ℕ
  taken_of n = sum_by f (things_taken naming m n)

  put_ends : (ends : List Seat) → sum_by f (all_put naming m ends) ≡ sum_by (λ (s : Seat). when (is_role s.role Producer) (sent_of s.queue)) ends
  put_ends ends = sum_flat f (things_out naming m) ends ∙ sum_same (λ s. sum_by f (things_out naming m s)) (λ (s : Seat). when (is_role s.role Producer) (sent_of s.queue)) ends (λ i s at. out_is naming m f s.role s.queue)

  taken_ends : (ends : List Seat) → sum_by f (all_taken naming m ends) ≡ sum_by (λ (s : Seat). when (is_role s.role Consumer) (taken_of s.queue)) ends
  taken_ends ends = sum_flat f (things_in naming m) ends ∙ sum_same (λ s. sum_by f (things_in naming m s)) (λ (s : Seat). when (is_role s.role Consumer) (taken_of s.queue)) ends (λ i s at. in_is naming m f s.role s.queue)

  module _ (rows : List QueueRow) (keepers : List Keeper) (are : AreKeepers rows keepers) where
    -- what one actor took is what was taken from the queues of which it is the consumer
    pub took_sum : (k : ℕ) (p : Keeper) → slice_get keepers k ≡ Some p → sum_by f (all_taken naming m p.ends) ≡ sum_below (λ n. when (owner_at rows Consumer n == k) (taken_of n)) (length rows)
    took_sum k p at = taken_ends p.ends ∙ ends_sum rows keepers are Consumer taken_of k p at

    -- what all put is what was put to all queues
    pub all_went : sum_by (λ (p : Keeper). sum_by f (all_put naming m p.ends)) keepers ≡ sum_below sent_of (length rows)
    all_went = sum_same (λ (p : Keeper). sum_by f (all_put naming m p.ends)) (λ p. sum_by (λ (s : Seat). when (is_role s.role Producer) (sent_of s.queue)) p.ends) keepers (λ i p at. put_ends p.ends) ∙ all_ends rows keepers are Producer sent_of

    -- and what all took is what was taken there
    pub all_came : sum_by (λ (p : Keeper). sum_by f (all_taken naming m p.ends)) keepers ≡ sum_below taken_of (length rows)
    all_came = sum_same (λ (p : Keeper). sum_by f (all_taken naming m p.ends)) (λ p. sum_by (λ (s : Seat). when (is_role s.role Consumer) (taken_of s.queue)) p.ends) keepers (λ i p at. taken_ends p.ends) ∙ all_ends rows keepers are Consumer taken_of

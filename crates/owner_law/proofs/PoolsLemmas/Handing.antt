use Rattle.std.proofs.Common.{◌≡◌, ◌≢◌, ◌⊎◌, ◌==◌, ◌<◌, ℕ, zero, suc, Bool, true, false, Some, List, [], ◌∷◌, ◌++◌, length, map, slice_get, refl, sym, ap, ◌∙◌, subst, arith, inl, inr}
use Rattle.std.specs.Prelude.{slice_index_or}
use Rattle.std.proofs.Math.Dec.{eqb}
use Rattle.std.proofs.lemmas.Bool.Decides.{eqb_tells}
use Rattle.std.proofs.lemmas.List.{append-nil}
use Rattle.cargo_core.specs.Lists.{IsPrefix}
use Rattle.cargo_core.specs.declared.item.Item.{Item}
use Rattle.wire_core.specs.declared.names.QueueRow.{QueueRow}
use Rattle.wire_core.specs.declared.names.Op.{Op}
use Rattle.wire_core.specs.declared.names.Op.TheVariants as Do
use Rattle.wire_core.specs.Deeds.{Cargo, Deed, cargo_of}
use Rattle.wire_core.specs.Ends.{Role, Consumer, role_of}
use Rattle.wire_core.specs.Journal.{start_history, start_track}
use Rattle.wire_core.specs.Lists.{Passed, with_deed, nothing_passed, if_there, if_put, put_by}
use Rattle.wire_core.specs.Queues.{items_of}
use Rattle.play_core.specs.Moved.{Moved, Seat, moved}
use Rattle.play_core.specs.Wants.{outlet}
use Rattle.play_core.proofs.Lists.{there_below}
use Rattle.owner_law.specs.Things.{Names, NoBuffers, Buffers, Frames, Leases, Returns, Answers, Naming, thing_at, thing_of, Whole, buffer_of, requests_of, as_buffer}
use Rattle.owner_law.specs.Pages.{CarryPages}
use Rattle.owner_law.specs.Pools.Handing.{AllCarry, TakesPages, IsOnward}

start_at : (rows : List QueueRow) (n : ℕ) → slice_index_or (map (λ row. start_track) rows) n start_track ≡ start_track
start_at [] n = refl
start_at (row ∷ rows) zero = refl
start_at (row ∷ rows) (suc n) = start_at rows n

pub carry_start : (naming : Naming) (rows : List QueueRow) → CarryPages naming (moved (start_history rows) []) nothing_passed
carry_start naming rows = record {
  sent = λ n. ap (λ t. t.sent) (start_at rows n);
  taken = λ n. ap (λ t. t.taken) (start_at rows n);
  bodies = λ n k c at b. cc;
}

get_before : (xs ys : List Cargo) (k : ℕ) → k < length xs → slice_get (items_of (xs ++ ys)) k ≡ slice_get (items_of xs) k
get_before [] ys k lt = absurd (omega (arith, lt))
get_before (x ∷ xs) ys zero lt = refl
get_before (x ∷ xs) ys (suc k) lt = get_before xs ys k (omega (arith, lt))

pub get_first : {T : Type 0} (xs ys : List T) (k : ℕ) (x : T) → slice_get xs k ≡ Some x → slice_get (xs ++ ys) k ≡ Some x
get_first [] ys k x at = cc
get_first (y ∷ xs) ys zero x at = at
get_first (y ∷ xs) ys (suc k) x at = get_first xs ys k x at

items_length : (xs : List Cargo) → length (items_of xs) ≡ length xs
items_length [] = refl
items_length (x ∷ xs) = ap suc (items_length xs)

puts_or_not : (o : Op) → (o ≡ Do.Put) ⊎ ((c : List Cargo) → if_put o c ≡ [])
puts_or_not Do.Put = inl refl
puts_or_not Do.Take = inr (λ c. refl)
puts_or_not Do.See = inr (λ c. refl)
puts_or_not Do.Room = inr (λ c. refl)
puts_or_not (Do.Ask s) = inr (λ c. refl)
puts_or_not (Do.Waive s) = inr (λ c. refl)
puts_or_not (Do.Wake s) = inr (λ c. refl)
puts_or_not (Do.Wanted s) = inr (λ c. refl)
puts_or_not (Do.Settle s) = inr (λ c. refl)
puts_or_not (Do.Ring s) = inr (λ c. refl)
puts_or_not (Do.Store w v) = inr (λ c. refl)

there_or_not : (b : Bool) (c : List Cargo) → c ≡ [] → if_there b c ≡ []
there_or_not true c h = h
there_or_not false c h = refl

module _ (naming : Naming) (old new : Moved) (passed : Passed) (d : Deed) (ends : List Seat) (x : IsOnward naming old new passed d ends) where
  abbrev after : Passed
  after = with_deed passed d

  abbrev q : ℕ
  q = d.event.queue.0

  -- an earlier entry names what it named
  thing_still : (n k : ℕ) (i : Item) → k < length (passed.sent n) → thing_at (naming n) (requests_of (naming n) old) k i ≡ thing_at (naming n) (requests_of (naming n) new) k i
  thing_still n k i lt = by (naming n) refl
    where
      by : (names : Names) → naming n ≡ names → thing_at names (requests_of names old) k i ≡ thing_at names (requests_of names new) k i
      by NoBuffers is = refl
      by (Buffers ws) is = refl
      by (Frames ws receivers) is = refl
      by (Leases ws) is = refl
      by (Returns ws) is = refl
      by (Answers r ws) is =
          let enough : k < length (passed.sent r) = omega (arith, lt, x.asked n r ws is, ap length (x.carried.sent n), ap length (x.carried.sent r), items_length (passed.sent n), items_length (passed.sent r)) in
          let before : slice_get (new.sent r) k ≡ slice_get (old.sent r) k =
          ap (λ xs. slice_get xs k) (x.sent r) ∙ (get_before (passed.sent r) (put_by d r) k enough ∙ ap (λ xs. slice_get xs k) (sym (x.carried.sent r))) in
          ap (λ o. thing_of Whole (Rattle.std.specs.Option.option_and_then (buffer_of ws) o)) (sym before)

  still : (n : ℕ) → after.sent n ≡ passed.sent n → AllCarry naming new n (after.sent n)
  still n same k c at b =
      let was : slice_get (passed.sent n) k ≡ Some c = ap (λ xs. slice_get xs k) (sym same) ∙ at in
      x.carried.bodies n k c was b ∙ ap (as_buffer b) (thing_still n k c.0 (there_below (passed.sent n) k c was))

  unchanged : (n : ℕ) → if_there (q == n) (if_put d.event.op (cargo_of d)) ≡ [] → after.sent n ≡ passed.sent n
  unchanged n none = ap (λ ys. passed.sent n ++ ys) none ∙ append-nil (passed.sent n)

  -- what it took is of queues to which it puts nothing
  takes : d.event.op ≡ Do.Put → (i : ℕ) → slice_get ends i ≡ Some (outlet q) → TakesPages naming new after ends
  takes put i there j s at consumer k c c_at =
      let role : s ≡ record { queue = s.queue; role = Consumer } = by s consumer in
      let off : q ≡ s.queue → ⊥ = λ e. x.split j i s.queue (at ∙ ap Some role) (there ∙ ap (λ n. Some (outlet n)) e) in
      let first : slice_get (after.sent s.queue) k ≡ Some c = let pre = x.begins s.queue in ap (λ xs. slice_get xs k) (sym pre.1) ∙ get_first (after.taken s.queue) pre.0 k c c_at in
      still s.queue (unchanged s.queue (away off (eqb_tells q s.queue))) k c first
    where
      by : (s_ : Seat) → s_.role ≡ Consumer → s_ ≡ record { queue = s_.queue; role = Consumer }
      by s_ h = ap (λ (r : Role). let y : Seat = record { queue = s_.queue; role = r } in y) h

      away : (q ≡ s.queue → ⊥) → ((eqb q s.queue ≡ true) × (q ≡ s.queue)) ⊎ ((eqb q s.queue ≡ false) × (q ≢ s.queue)) → if_there (q == s.queue) (if_put d.event.op (cargo_of d)) ≡ []
      away off (inl h) = absurd (off h.1)
      away off (inr h) = ap (λ b. if_there b (if_put d.event.op (cargo_of d))) h.0

  all_carry : (n : ℕ) → AllCarry naming new n (after.sent n)
  all_carry n = by (eqb_tells q n) (puts_or_not d.event.op)
    where
      by : ((eqb q n ≡ true) × (q ≡ n)) ⊎ ((eqb q n ≡ false) × (q ≢ n)) → (d.event.op ≡ Do.Put) ⊎ ((c : List Cargo) → if_put d.event.op c ≡ []) → AllCarry naming new n (after.sent n)
      by (inr h) e = still n (unchanged n (ap (λ b. if_there b (if_put d.event.op (cargo_of d))) h.0))
      by (inl h) (inr none) = still n (unchanged n (there_or_not (q == n) (if_put d.event.op (cargo_of d)) (none (cargo_of d))))
      by (inl h) (inl put) =
          let own : slice_get ends x.own.0 ≡ Some (outlet q) = x.own.1 ∙ ap (λ o. let y : Seat = record { queue = q; role = role_of o } in Some y) put in
          subst (λ r. AllCarry naming new r (after.sent r)) h.1 (x.hands_on (takes put x.own.0 own) x.own.0 (outlet q) own refl)

  pub carry_step : CarryPages naming new after
  carry_step = record { sent = x.sent; taken = x.taken; bodies = λ n k c at b. all_carry n k c at b }

-- what was taken carries, where all that was put does
pub carry_takes : (naming : Naming) (m : Moved) (passed : Passed) (ends : List Seat) → CarryPages naming m passed → ((n : ℕ) → IsPrefix (passed.taken n) (passed.sent n)) → TakesPages naming m passed ends
carry_takes naming m passed ends carry begins i s at consumer k c c_at =
    let pre = begins s.queue in
    carry.bodies s.queue k c (ap (λ xs. slice_get xs k) (sym pre.1) ∙ get_first (passed.taken s.queue) pre.0 k c c_at)

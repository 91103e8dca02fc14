use Rattle.std.proofs.Common.{◌≡◌, ◌<◌, ◌+◌, ◌≤◌, ◌++◌, ℕ, Bool, true, false, nat_lt, List, [], ◌∷◌, length, refl, sym, ap, arith, inl, inr}
use Rattle.std.proofs.lemmas.Bool.{ltb-false}
use Rattle.cargo_core.specs.Lists.{IsPrefix}
use Rattle.wire_core.specs.declared.names.BellState.{BellState}
use Rattle.wire_core.specs.declared.names.QueueRow.{QueueRow}
use Rattle.wire_core.specs.declared.names.Waiter.{Waiter}
use Rattle.wire_core.specs.declared.names.Waiter.TheVariants as Wait
use Rattle.wire_core.specs.Bells.{BellHolds}
use Rattle.wire_core.specs.Ends.{is_clear}
use Rattle.wire_core.specs.Journal.{Track, TrackHolds, Flows, is_sent, is_open}
use Rattle.play_core.specs.Resting.{BellRests, QueueRests, QueuePays, is_due}

clear_is : (w : Waiter) → is_clear w ≡ true → w ≡ Wait.Clear
clear_is Wait.Clear h = refl
clear_is Wait.Busy h = cc
clear_is Wait.Off h = cc
clear_is Wait.Asked h = cc

-- the whole argument on one bell: where it rests and its waiter is needed, it isn't ready
pub unready : (b : BellState) (ready : Bool) (count : ℕ) (need : Bool) → BellHolds b ready count → BellRests b need → need ≡ true → ready ≡ false
unready b false count need holds rests needed = refl
unready b true count need holds rests needed = elim (holds.signalled (clear_is b.waiter (rests.clear needed)) refl) [
  | inl pending ↦ cc (pending, rests.silent)
  | inr busy ↦ cc (busy, rests.free)
]

not_less : (n m : ℕ) → nat_lt n m ≡ false → m ≤ n
not_less n m h = ltb-false n m h

-- a beginning that isn't shorter is the whole
pub whole_prefix : {T : Type 0} (xs ys : List T) → IsPrefix xs ys → length ys ≤ length xs → xs ≡ ys
whole_prefix {T} [] ys ([], h) n = h
whole_prefix {T} [] [] (x ∷ rest, h) n = refl
whole_prefix {T} [] (y ∷ ys) (x ∷ rest, h) n = absurd (omega arith)
whole_prefix {T} (x ∷ xs) [] (rest, h) n = cc
whole_prefix {T} (x ∷ xs) (y ∷ ys) (rest, h) n =
    let head : x ≡ y = cc in
    let tail : xs ++ rest ≡ ys = cc in
    let same : xs ≡ ys = whole_prefix xs ys (rest, tail) (omega arith) in
    cc

module _ (row : QueueRow) (t : Track) (needed owed : Bool) (holds : TrackHolds row t) (flows : Flows row t) (forward : BellRests t.bells.forward needed) (backward : BellRests t.bells.backward owed) where
  drained : needed ≡ true → t.sent ≡ t.taken
  drained h = sym (whole_prefix t.taken t.sent flows.begins (not_less _ _ (unready t.bells.forward (is_sent t) _ needed holds.forward forward h)))

  filled : owed ≡ true → length t.sent ≡ length t.taken + row.capacity
  filled h =
      let full : length t.taken + row.capacity ≤ length t.sent = not_less _ _ (unready t.bells.backward (is_open row t) _ owed holds.backward backward h) in
      omega (arith, full, flows.within)

  handed : (b : Bool) → owed ≡ b → 0 < row.capacity → needed ≡ true → owed ≡ false
  handed false e some need = e
  handed true e some need =
      let full = filled e in
      let same : length t.sent ≡ length t.taken = ap length (drained need) in
      absurd (omega (arith, full, same, some))

  pub queue_rests : QueueRests row t needed owed
  queue_rests = record { drained = drained; filled = filled; handed = handed owed refl }

-- what is due was put, where the queue is needed, or has room for all of it
pub queue_pays : (row : QueueRow) (t : Track) (needed : Bool) (due : ℕ) → QueueRests row t needed (is_due t due) → QueuePays row t needed due
queue_pays row t needed due rests = record {
  needed_paid = λ some need. not_less _ _ (rests.handed some need);
  roomy_paid = λ room. roomy (is_due t due) refl room;
}
  where
    roomy : (b : Bool) → is_due t due ≡ b → due ≤ length t.taken + row.capacity → due ≤ length t.sent
    roomy false e room = not_less _ _ e
    roomy true e room = let full = rests.filled e in omega (arith, full, room)

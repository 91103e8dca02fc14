-- The times at the ends of an actor: each put is after all that passed there.
use Rattle.std.proofs.Common.{◌≡◌, ◌≢◌, ◌⊎◌, inl, inr, ⊎_elim, ℕ, zero, suc, ◌≤◌, List, [], ◌∷◌, ◌++◌, subst, arith, slice_set, refl, sym, ap, ◌∙◌, Option, Some, slice_get}
use Rattle.wire_core.specs.declared.names.Op.{Op}
use Rattle.wire_core.specs.declared.names.Op.TheVariants as Do
use Rattle.wire_core.specs.declared.names.Answer.{Answer}
use Rattle.wire_core.specs.Deeds.{Deed, Cargo, cargo_of}
use Rattle.wire_core.specs.Ends.{Role, Consumer, Producer, role_of}
use Rattle.spsc_queue.specs.declared.view.Half.{Half}
use Rattle.spsc_queue.specs.Known.Ends.{EndIs}
use Rattle.spsc_queue.specs.Steps.{EndDid, last_value}
use Rattle.spsc_queue.proofs.Rows.{see_same, room_same, took_times}
use Rattle.seat_wires.specs.Places.Are.{SeatsAre}
use Rattle.seat_wires.specs.Places.{ends_of, with_ends, SeatDid}
use Rattle.seat_wires.specs.Times.{times_known, times_or, times_at, ComesAfter, IsTimely, AddsTime, TimesGo, sum_of, times_of, next_time}
use Rattle.seat_wires.proofs.Seating.{IsStored, maker_or, unchanged, ends_with, ends_stay, slice_get_written, slice_get_beside}

same_time : (u t : ℕ) → Some u ≡ Some t → u ≡ t
same_time u t e = cc

-- none is above the sum
within_sum : (ts : List ℕ) (i t : ℕ) → slice_get ts i ≡ Some t → t ≤ sum_of ts
within_sum [] i t is = cc
within_sum (u ∷ ts) zero t is = let e : u ≡ t = same_time u t is in omega (arith, e)
within_sum (u ∷ ts) (suc i) t is = let h = within_sum ts i t is in omega (arith, h)

-- nor are those of one end above the sum of all
within_all : (es : List (Option EndIs)) (n i t : ℕ) → slice_get (times_or (slice_get es n)) i ≡ Some t → t ≤ times_of es
within_all [] n i t is = cc
within_all (e ∷ es) zero i t is = let h = within_sum (times_known e) i t is in omega (arith, h)
within_all (e ∷ es) (suc n) i t is = let h = within_all es n i t is in omega (arith, h)

pub comes_next : (s : SeatsAre) → ComesAfter s (next_time s)
comes_next s Consumer n i t is = let h = within_all s.consumers n i t is in omega (arith, h)
comes_next s Producer n i t is = let h = within_all s.producers n i t is in omega (arith, h)

-- what a call adds to the times of its end
abbrev Adds : Op → SeatsAre → List ℕ → List ℕ → Type 0
Adds Do.Put s old new = (time : ℕ) × (new ≡ old ++ time ∷ []) × ComesAfter s time
Adds Do.Take s old new = (time : ℕ) × (new ≡ old ++ time ∷ [])
Adds Do.See s old new = new ≡ old
Adds Do.Room s old new = new ≡ old
Adds (Do.Ask x) s old new = new ≡ old
Adds (Do.Waive x) s old new = new ≡ old
Adds (Do.Wake x) s old new = new ≡ old
Adds (Do.Wanted x) s old new = new ≡ old
Adds (Do.Settle x) s old new = new ≡ old
Adds (Do.Ring x) s old new = new ≡ old
Adds (Do.Store w v) s old new = new ≡ old

adds : (s : SeatsAre) (n : ℕ) (h : Half) (o : Op) (a : Answer) (c : List Cargo) (h' : Half) → EndDid n h o a c h' → (o ≡ Do.Put → IsTimely s h h') → Adds o s h.times h'.times
adds s n h Do.See a c h' d timely = see_same n h (last_value h') a c h' (λ (z : Half). z.times) (λ g b w v k o. refl) (λ g w v. refl) h.wild d
adds s n h Do.Room a c h' d timely = room_same n h (last_value h') a c h' (λ (z : Half). z.times) (λ g b w v k o. refl) (λ g w v. refl) h.wild d
adds s n h Do.Take a c h' d timely = (d.1, ap (λ (z : Half). z.times) d.4 ∙ took_times n h d.0 d.1 h.wild)
adds s n h Do.Put a c h' d timely = timely refl
adds s n h (Do.Ask x) a c h' d timely = ap (λ (z : Half). z.times) d.0
adds s n h (Do.Waive x) a c h' d timely = ap (λ (z : Half). z.times) d.0
adds s n h (Do.Wake x) a c h' d timely = ap (λ (z : Half). z.times) d.0
adds s n h (Do.Wanted x) a c h' d timely = ap (λ (z : Half). z.times) d.0
adds s n h (Do.Settle x) a c h' d timely = ap (λ (z : Half). z.times) d.0
adds s n h (Do.Ring x) a c h' d timely = ap (λ (z : Half). z.times) d.0
adds s n h (Do.Store w v) a c h' d timely = ap (λ (z : Half). z.times) d.0

-- the same, as the times at a place are told
adds_time : (o : Op) (s t : SeatsAre) (n : ℕ) → Adds o s (times_at s (role_of o) n) (times_at t (role_of o) n) → AddsTime o s n t
adds_time Do.See s t n a = a
adds_time Do.Room s t n a = a
adds_time Do.Take s t n a = a
adds_time Do.Put s t n a = a
adds_time (Do.Ask x) s t n a = a
adds_time (Do.Waive x) s t n a = a
adds_time (Do.Wake x) s t n a = a
adds_time (Do.Wanted x) s t n a = a
adds_time (Do.Settle x) s t n a = a
adds_time (Do.Ring x) s t n a = a
adds_time (Do.Store w v) s t n a = a

times_is : (s : SeatsAre) (r : Role) (n : ℕ) → times_at s r n ≡ times_or (slice_get (ends_of s r) n)
times_is s Consumer n = refl
times_is s Producer n = refl

same_role : (r r' : Role) → (r' ≢ r) ⊎ (r' ≡ r)
same_role Consumer Consumer = inr refl
same_role Consumer Producer = inl (λ e. cc)
same_role Producer Consumer = inl (λ e. cc)
same_role Producer Producer = inr refl

module _ (s : SeatsAre) (d : Deed) (t : SeatsAre) (h : SeatDid s d t) where
  abbrev r : Role
  r = h.maker

  abbrev q : ℕ
  q = d.event.queue.0

  abbrev after : EndIs
  after = record { ring = h.before.ring; knows = h.knows }

  abbrev new : List (Option EndIs)
  new = slice_set (ends_of s r) q (Some after)

  before_is : times_at s r q ≡ h.before.knows.times
  before_is = times_is s r q ∙ ap times_or h.there

  after_is : times_at t r q ≡ h.knows.times
  after_is = times_is t r q ∙ (ap (λ (z : SeatsAre). times_or (slice_get (ends_of z r) q)) h.after_is ∙ (ap (λ (z : List (Option EndIs)). times_or (slice_get z q)) (ends_with s r new) ∙ ap times_or (slice_get_written (ends_of s r) q (Some h.before) (Some after) h.there)))

  made_beside : (x : Role) (n : ℕ) → (x ≡ r → n ≡ q → ⊥) → times_at t x n ≡ times_at s x n
  made_beside x n away = times_is t x n ∙ (ap (λ (z : SeatsAre). times_or (slice_get (ends_of z x) n)) h.after_is ∙ (⊎_elim
      (λ ne. ap (λ (z : List (Option EndIs)). times_or (slice_get z n)) (ends_stay s r x new ne))
      (λ same. subst (λ (y : Role). times_or (slice_get (ends_of (with_ends s r new) y) n) ≡ times_or (slice_get (ends_of s y) n)) (sym same)
      (ap (λ (z : List (Option EndIs)). times_or (slice_get z n)) (ends_with s r new) ∙ ap times_or (slice_get_beside (ends_of s r) q n (Some after) (λ e. away same e))))
      (same_role r x) ∙ sym (times_is s x n)))

  added_here : Adds d.event.op s h.before.knows.times h.knows.times
  added_here = adds s h.before.ring.slots h.before.knows d.event.op d.event.answer (cargo_of d) h.knows h.step h.timely

  -- a store leaves all times
  all_stay : IsStored d.event.op → (x : Role) (n : ℕ) → times_at t x n ≡ times_at s x n
  all_stay st x n = times_is t x n ∙ (unchanged s d t h times_or (subst (λ (o : Op). Adds o s h.before.knows.times h.knows.times) st.2 added_here) x n ∙ sym (times_is s x n))

  stays : (x : Role) (n : ℕ) → (x ≡ role_of d.event.op → n ≡ q → ⊥) → times_at t x n ≡ times_at s x n
  stays x n away = ⊎_elim
      (λ same. made_beside x n (λ e. away (e ∙ same)))
      (λ st. all_stay st x n)
      (maker_or d.event.op r h.makes)

  goes_here : AddsTime d.event.op s q t
  goes_here = ⊎_elim
      (λ same. adds_time d.event.op s t q (subst (λ (z : Role). Adds d.event.op s (times_at s z q) (times_at t z q)) same (subst (λ (z : List ℕ × List ℕ). Adds d.event.op s z.0 z.1) (λ i. (sym before_is i, sym after_is i)) added_here)))
      (λ st. subst (λ (o : Op). AddsTime o s q t) (sym st.2) (all_stay st (role_of (Do.Store st.0 st.1)) q))
      (maker_or d.event.op r h.makes)

  pub times_go : TimesGo s d t
  times_go = record { here = goes_here; others = stays }

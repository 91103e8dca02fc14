-- The lists of the ends grow by what a call moves.
use Rattle.std.proofs.Common.{◌≡◌, ◌≢◌, ◌⊎◌, inl, inr, ⊎_elim, ℕ, Bool, true, false, List, [], ◌++◌, refl, sym, ap, ◌∙◌, subst, append-nil, Option, Some, slice_get, slice_set, eqb, eq-eqb, ne_eqb}
use mathlib.Core.Logic.{dite}
use native.Mathlib.Decide.{ℕ_discrete}
use Rattle.wire_core.specs.declared.names.Op.{Op}
use Rattle.wire_core.specs.declared.names.Op.TheVariants as Do
use Rattle.wire_core.specs.declared.names.Answer.{Answer}
use Rattle.wire_core.specs.Deeds.{Deed, Cargo, cargo_of}
use Rattle.wire_core.specs.Lists.{if_there, if_taken, if_put, taken_by, put_by, with}
use Rattle.wire_core.specs.Ends.{Role, Consumer, Producer, role_of}
use Rattle.spsc_queue.specs.declared.view.Half.{Half}
use Rattle.spsc_queue.specs.Known.Ends.{EndIs}
use Rattle.spsc_queue.specs.Steps.{EndDid, last_value}
use Rattle.spsc_queue.specs.Shown.{moves}
use Rattle.spsc_queue.proofs.Rows.{see_same, room_same, took_entries, sent_entries}
use Rattle.seat_wires.specs.Places.Are.{SeatsAre}
use Rattle.seat_wires.specs.Places.{ends_of, entries_or, seats_taken, seats_sent, IsMaker, SeatDid}
use Rattle.seat_wires.proofs.Seating.{maker_or, ends_with, ends_stay, slice_get_written, slice_get_beside}

-- what a call of this role adds to its end's list
abbrev added : Role → Op → List Cargo → List Cargo
added Consumer o c = if_taken o c
added Producer o c = if_put o c

-- a call that moves nothing adds nothing
adds_none : (o : Op) (c : List Cargo) (r : Role) → moves o ≡ false → added r o c ≡ []
adds_none Do.Take c r m = cc
adds_none Do.Put c r m = cc
adds_none Do.See c Consumer m = refl
adds_none Do.See c Producer m = refl
adds_none Do.Room c Consumer m = refl
adds_none Do.Room c Producer m = refl
adds_none (Do.Ask s) c Consumer m = refl
adds_none (Do.Ask s) c Producer m = refl
adds_none (Do.Waive s) c Consumer m = refl
adds_none (Do.Waive s) c Producer m = refl
adds_none (Do.Wake s) c Consumer m = refl
adds_none (Do.Wake s) c Producer m = refl
adds_none (Do.Wanted s) c Consumer m = refl
adds_none (Do.Wanted s) c Producer m = refl
adds_none (Do.Settle s) c Consumer m = refl
adds_none (Do.Settle s) c Producer m = refl
adds_none (Do.Ring s) c Consumer m = refl
adds_none (Do.Ring s) c Producer m = refl
adds_none (Do.Store w v) c Consumer m = refl
adds_none (Do.Store w v) c Producer m = refl

same_list : (r : Role) (o : Op) (c : List Cargo) (h h' : Half) → moves o ≡ false → h'.entries ≡ h.entries → h'.entries ≡ h.entries ++ added r o c
same_list r o c h h' m is = is ∙ (sym (append-nil h.entries) ∙ ap (λ (z : List Cargo). h.entries ++ z) (sym (adds_none o c r m)))

grows : (r : Role) (n : ℕ) (h : Half) (o : Op) (a : Answer) (c : List Cargo) (h' : Half) → IsMaker o r → EndDid n h o a c h' → h'.entries ≡ h.entries ++ added r o c
grows r n h Do.See a c h' m d = same_list r Do.See c h h' refl (see_same n h (last_value h') a c h' (λ (z : Half). z.entries) (λ g b w v k o. refl) (λ g w v. refl) h.wild d)
grows r n h Do.Room a c h' m d = same_list r Do.Room c h h' refl (room_same n h (last_value h') a c h' (λ (z : Half). z.entries) (λ g b w v k o. refl) (λ g w v. refl) h.wild d)
grows r n h Do.Take a c h' m d = subst (λ (z : Role). h'.entries ≡ h.entries ++ added z Do.Take c) (sym m) (ap (λ (z : Half). z.entries) d.4 ∙ (took_entries n h d.0 d.1 h.wild ∙ ap (λ (z : List Cargo). h.entries ++ z) (sym d.2)))
grows r n h Do.Put a c h' m d = subst (λ (z : Role). h'.entries ≡ h.entries ++ added z Do.Put c) (sym m) (ap (λ (z : Half). z.entries) d.3 ∙ (sent_entries n h d.0 d.1 h.wild ∙ ap (λ (z : List Cargo). h.entries ++ z) (sym d.2)))
grows r n h (Do.Ask s) a c h' m d = same_list r (Do.Ask s) c h h' refl (ap (λ (z : Half). z.entries) d.0)
grows r n h (Do.Waive s) a c h' m d = same_list r (Do.Waive s) c h h' refl (ap (λ (z : Half). z.entries) d.0)
grows r n h (Do.Wake s) a c h' m d = same_list r (Do.Wake s) c h h' refl (ap (λ (z : Half). z.entries) d.0)
grows r n h (Do.Wanted s) a c h' m d = same_list r (Do.Wanted s) c h h' refl (ap (λ (z : Half). z.entries) d.0)
grows r n h (Do.Settle s) a c h' m d = same_list r (Do.Settle s) c h h' refl (ap (λ (z : Half). z.entries) d.0)
grows r n h (Do.Ring s) a c h' m d = same_list r (Do.Ring s) c h h' refl (ap (λ (z : Half). z.entries) d.0)
grows r n h (Do.Store w v) a c h' m d = same_list r (Do.Store w v) c h h' refl (ap (λ (z : Half). z.entries) d.0)

-- the other role's list stays
idle : (o : Op) (c : List Cargo) (r : Role) → r ≢ role_of o → added r o c ≡ []
idle Do.See c Consumer h = refl
idle Do.See c Producer h = refl
idle Do.Room c Consumer h = refl
idle Do.Room c Producer h = refl
idle Do.Take c Consumer h = absurd (h refl)
idle Do.Take c Producer h = refl
idle Do.Put c Consumer h = refl
idle Do.Put c Producer h = absurd (h refl)
idle (Do.Ask s) c Consumer h = refl
idle (Do.Ask s) c Producer h = refl
idle (Do.Waive s) c Consumer h = refl
idle (Do.Waive s) c Producer h = refl
idle (Do.Wake s) c Consumer h = refl
idle (Do.Wake s) c Producer h = refl
idle (Do.Wanted s) c Consumer h = refl
idle (Do.Wanted s) c Producer h = refl
idle (Do.Settle s) c Consumer h = refl
idle (Do.Settle s) c Producer h = refl
idle (Do.Ring s) c Consumer h = refl
idle (Do.Store w v) c Consumer h = refl
idle (Do.Ring s) c Producer h = refl
idle (Do.Store w v) c Producer h = refl

-- nor is anything added at an end that didn't make the call
idle_else : (o : Op) (c : List Cargo) (maker r : Role) → IsMaker o maker → r ≢ maker → added r o c ≡ []
idle_else o c maker r makes ne = ⊎_elim
    (λ same. idle o c r (λ e. ne (e ∙ sym same)))
    (λ st. ap (λ (z : Op). added r z c) st.2 ∙ adds_none (Do.Store st.0 st.1) c r refl)
    (maker_or o maker makes)

if_nothing : (b : Bool) → if_there b [] ≡ []
if_nothing true = refl
if_nothing false = refl

same_role : (r r' : Role) → (r' ≢ r) ⊎ (r' ≡ r)
same_role Consumer Consumer = inr refl
same_role Consumer Producer = inl (λ e. cc)
same_role Producer Consumer = inl (λ e. cc)
same_role Producer Producer = inr refl

module _ (s : SeatsAre) (d : Deed) (t : SeatsAre) (h : SeatDid s d t) where
  abbrev r : Role
  r = h.maker

  abbrev q : ℕ
  q = d.event.queue.0

  abbrev after : EndIs
  after = record { ring = h.before.ring; knows = h.knows }

  abbrev new : List (Option EndIs)
  new = slice_set (ends_of s r) q (Some after)

  list_grows : (x : Role) (n : ℕ) → entries_or (slice_get (ends_of t x) n) ≡ entries_or (slice_get (ends_of s x) n) ++ if_there (eqb q n) (added x d.event.op (cargo_of d))
  list_grows x n = ⊎_elim
      (λ ne. ap (λ (z : SeatsAre). entries_or (slice_get (ends_of z x) n)) h.after_is ∙ (ap (λ (z : List (Option EndIs)). entries_or (slice_get z n)) (ends_stay s r x new ne)
      ∙ (sym (append-nil (entries_or (slice_get (ends_of s x) n))) ∙ ap (λ (z : List Cargo). entries_or (slice_get (ends_of s x) n) ++ z) (sym (ap (if_there (eqb q n)) (idle_else d.event.op (cargo_of d) r x h.makes ne) ∙ if_nothing (eqb q n))))))
      (λ same. subst (λ (y : Role). entries_or (slice_get (ends_of t y) n) ≡ entries_or (slice_get (ends_of s y) n) ++ if_there (eqb q n) (added y d.event.op (cargo_of d))) (sym same) (dite (ℕ_discrete q n)
      (λ at. subst (λ (m : ℕ). entries_or (slice_get (ends_of t r) m) ≡ entries_or (slice_get (ends_of s r) m) ++ if_there (eqb q m) (added r d.event.op (cargo_of d))) at
      (ap (λ (z : SeatsAre). entries_or (slice_get (ends_of z r) q)) h.after_is ∙ (ap (λ (z : List (Option EndIs)). entries_or (slice_get z q)) (ends_with s r new) ∙ (ap entries_or (slice_get_written (ends_of s r) q (Some h.before) (Some after) h.there)
      ∙ (grows r h.before.ring.slots h.before.knows d.event.op d.event.answer (cargo_of d) h.knows h.makes h.step ∙ (λ i. entries_or (sym h.there i) ++ if_there (sym (eq-eqb q q refl) i) (added r d.event.op (cargo_of d))))))))
      (λ ne. ap (λ (z : SeatsAre). entries_or (slice_get (ends_of z r) n)) h.after_is ∙ (ap (λ (z : List (Option EndIs)). entries_or (slice_get z n)) (ends_with s r new) ∙ (ap entries_or (slice_get_beside (ends_of s r) q n (Some after) (λ e. ne (sym e)))
      ∙ (sym (append-nil (entries_or (slice_get (ends_of s r) n))) ∙ ap (λ (b : Bool). entries_or (slice_get (ends_of s r) n) ++ if_there b (added r d.event.op (cargo_of d))) (sym (ne_eqb q n ne))))))))
      (same_role r x)

  pub taken_grow : seats_taken t ≡ with (seats_taken s) (taken_by d)
  taken_grow = λ i n. list_grows Consumer n i

  pub sent_grow : seats_sent t ≡ with (seats_sent s) (put_by d)
  sent_grow = λ i n. list_grows Producer n i

-- A call on one end, as the trait says it.
use Rattle.std.proofs.Common.{◌≡◌, ◌≢◌, ◌⊎◌, inl, inr, ⊎_elim, ℕ, Bool, true, List, [], ◌∷◌, refl, sym, ap, ◌∙◌, subst, zero, suc, get_or, Option, Some, slice_get, slice_set}
use mathlib.Core.Logic.{dite}
use native.Mathlib.Decide.{ℕ_discrete}
use Rattle.cargo_core.specs.declared.act.Word.{Word}
use Rattle.wire_core.specs.declared.names.Op.{Op}
use Rattle.wire_core.specs.declared.names.Op.TheVariants as Do
use Rattle.wire_core.specs.declared.names.Answer.{Answer}
use Rattle.wire_core.specs.declared.names.Side.{Side}
use Rattle.wire_core.specs.declared.names.QueueId.{QueueId}
use Rattle.wire_core.specs.Deeds.{Deed, Cargo, cargo_of, plain_deed, look_deed}
use Rattle.wire_core.specs.Ends.{Role, Consumer, Producer, End, Moves, role_of, end_after}
use Rattle.spsc_queue.specs.declared.view.Half.{Half}
use Rattle.spsc_queue.specs.Known.Ends.{EndIs}
use Rattle.spsc_queue.specs.Steps.{known_end, EndDid}
use Rattle.spsc_queue.proofs.Rows.{end_did}
use Rattle.seat_wires.specs.Places.Are.{SeatsAre}
use Rattle.seat_wires.specs.Places.{end_or, ends_of, seat_end, with_ends, IsMaker, SeatDid}
use Rattle.seat_wires.specs.Times.{IsTimely}

module _ {X : Type 0} where
  pub slice_get_written : (xs : List X) (i : ℕ) (x y : X) → slice_get xs i ≡ Some x → slice_get (slice_set xs i y) i ≡ Some y
  slice_get_written [] i x y h = cc
  slice_get_written (a ∷ xs) zero x y h = refl
  slice_get_written (a ∷ xs) (suc i) x y h = slice_get_written xs i x y h

  pub slice_get_beside : (xs : List X) (i j : ℕ) (y : X) → (j ≡ i → ⊥) → slice_get (slice_set xs i y) j ≡ slice_get xs j
  slice_get_beside [] i j y h = refl
  slice_get_beside (a ∷ xs) zero zero y h = absurd (h refl)
  slice_get_beside (a ∷ xs) zero (suc j) y h = refl
  slice_get_beside (a ∷ xs) (suc i) zero y h = refl
  slice_get_beside (a ∷ xs) (suc i) (suc j) y h = slice_get_beside xs i j y (λ e. h (ap suc e))

-- the end that stands at a place of one's own
pub there_of : (es : List (Option EndIs)) (q : ℕ) (x : Option EndIs) (e : EndIs) → (end_or (slice_get es q)).owned ≡ true → x ≡ get_or es q x → x ≡ Some e → slice_get es q ≡ Some (Some e)
there_of [] q x e owned is same = cc
there_of (a ∷ es) zero x e owned is same = ap (λ (z : Option EndIs). Some z) (sym is ∙ same)
there_of (a ∷ es) (suc q) x e owned is same = there_of es q x e owned is same

-- the kind stays
end_kind : (e : End) (o : Op) (a : Answer) → (end_after e o a).kind ≡ e.kind
end_kind e Do.See a = refl
end_kind e Do.Room a = refl
end_kind e Do.Take a = refl
end_kind e Do.Put a = refl
end_kind e (Do.Ask s) a = refl
end_kind e (Do.Waive s) a = refl
end_kind e (Do.Wake s) a = refl
end_kind e (Do.Wanted s) a = refl
end_kind e (Do.Settle s) a = refl
end_kind e (Do.Ring s) a = refl
end_kind e (Do.Store w v) a = refl

pub kind_stays : (n : ℕ) (h : Half) (o : Op) (a : Answer) (c : List Cargo) (h' : Half) → EndDid n h o a c h' → h'.kind ≡ h.kind
kind_stays n h o a c h' d = ap (λ (z : End). z.kind) (end_did n h o a c h' d) ∙ end_kind (known_end h) o a

-- the call is a store
abbrev pub IsStored : Op → Type 0
IsStored o = (w : Word) × (v : ℕ) × (o ≡ Do.Store w v)

-- a call is made by the end of its role, or is a store
pub maker_or : (o : Op) (r : Role) → IsMaker o r → (r ≡ role_of o) ⊎ IsStored o
maker_or Do.See r m = inl m
maker_or Do.Room r m = inl m
maker_or Do.Take r m = inl m
maker_or Do.Put r m = inl m
maker_or (Do.Ask s) r m = inl m
maker_or (Do.Waive s) r m = inl m
maker_or (Do.Wake s) r m = inl m
maker_or (Do.Wanted s) r m = inl m
maker_or (Do.Settle s) r m = inl m
maker_or (Do.Ring s) r m = inl m
maker_or (Do.Store w v) r m = inr (w, v, refl)

pub own_call : (o : Op) → IsMaker o (role_of o)
own_call Do.See = refl
own_call Do.Room = refl
own_call Do.Take = refl
own_call Do.Put = refl
own_call (Do.Ask s) = refl
own_call (Do.Waive s) = refl
own_call (Do.Wake s) = refl
own_call (Do.Wanted s) = refl
own_call (Do.Settle s) = refl
own_call (Do.Ring s) = refl
own_call (Do.Store w v) = tt

-- the ends of one role, after those were written anew
pub ends_with : (s : SeatsAre) (r : Role) (es : List (Option EndIs)) → ends_of (with_ends s r es) r ≡ es
ends_with s Consumer es = refl
ends_with s Producer es = refl

ends_beside : (s : SeatsAre) (r r' : Role) (es : List (Option EndIs)) → (r' ≢ r) ⊎ (r' ≡ r)
ends_beside s Consumer Consumer es = inr refl
ends_beside s Consumer Producer es = inl (λ e. cc)
ends_beside s Producer Consumer es = inl (λ e. cc)
ends_beside s Producer Producer es = inr refl

pub ends_stay : (s : SeatsAre) (r r' : Role) (es : List (Option EndIs)) → r' ≢ r → ends_of (with_ends s r es) r' ≡ ends_of s r'
ends_stay s Consumer Consumer es n = absurd (n refl)
ends_stay s Consumer Producer es n = refl
ends_stay s Producer Consumer es n = refl
ends_stay s Producer Producer es n = absurd (n refl)

module _ (s : SeatsAre) (d : Deed) (t : SeatsAre) (h : SeatDid s d t) where
  abbrev r : Role
  r = h.maker

  abbrev q : ℕ
  q = d.event.queue.0

  abbrev after : EndIs
  after = record { ring = h.before.ring; knows = h.knows }

  abbrev new : List (Option EndIs)
  new = slice_set (ends_of s r) q (Some after)

  here : slice_get (ends_of t r) q ≡ Some (Some after)
  here = ap (λ (z : SeatsAre). slice_get (ends_of z r) q) h.after_is ∙ (ap (λ (z : List (Option EndIs)). slice_get z q) (ends_with s r new) ∙ slice_get_written (ends_of s r) q (Some h.before) (Some after) h.there)

  -- what the call leaves at its end it leaves at all
  pub unchanged : {X : Type 0} (f : Option (Option EndIs) → X) → f (Some (Some after)) ≡ f (Some (Some h.before)) → (x : Role) (n : ℕ) → f (slice_get (ends_of t x) n) ≡ f (slice_get (ends_of s x) n)
  unchanged f same x n = ⊎_elim
      (λ ne. ap (λ (z : SeatsAre). f (slice_get (ends_of z x) n)) h.after_is ∙ ap (λ (z : List (Option EndIs)). f (slice_get z n)) (ends_stay s r x new ne))
      (λ is. subst (λ (y : Role). f (slice_get (ends_of t y) n) ≡ f (slice_get (ends_of s y) n)) (sym is) (ap (λ (z : SeatsAre). f (slice_get (ends_of z r) n)) h.after_is ∙ (ap (λ (z : List (Option EndIs)). f (slice_get z n)) (ends_with s r new) ∙ dite (ℕ_discrete n q)
      (λ at. subst (λ (m : ℕ). f (slice_get new m) ≡ f (slice_get (ends_of s r) m)) (sym at) (ap f (slice_get_written (ends_of s r) q (Some h.before) (Some after) h.there) ∙ (same ∙ ap f (sym h.there))))
      (λ ne. ap f (slice_get_beside (ends_of s r) q n (Some after) ne)))))
      (ends_beside s r x new)

  did : known_end h.knows ≡ end_after (known_end h.before.knows) d.event.op d.event.answer
  did = end_did h.before.ring.slots h.before.knows d.event.op d.event.answer (cargo_of d) h.knows h.step

  -- a store changes nothing that is known of an end
  same_known : IsStored d.event.op → known_end h.knows ≡ known_end h.before.knows
  same_known st = did ∙ ap (λ (o : Op). end_after (known_end h.before.knows) o d.event.answer) st.2

  made_here : seat_end t r q ≡ end_after (seat_end s r q) d.event.op d.event.answer
  made_here = ap end_or here ∙ (did ∙ ap (λ (z : Option (Option EndIs)). end_after (end_or z) d.event.op d.event.answer) (sym h.there))

  this : seat_end t (role_of d.event.op) q ≡ end_after (seat_end s (role_of d.event.op) q) d.event.op d.event.answer
  this = ⊎_elim
      (λ same. subst (λ (z : Role). seat_end t z q ≡ end_after (seat_end s z q) d.event.op d.event.answer) same made_here)
      (λ st. unchanged end_or (same_known st) (role_of d.event.op) q ∙ sym (ap (λ (o : Op). end_after (seat_end s (role_of d.event.op) q) o d.event.answer) st.2))
      (maker_or d.event.op r h.makes)

  made_beside : (r' : Role) (n : ℕ) → (r' ≡ r → n ≡ q → ⊥) → seat_end t r' n ≡ seat_end s r' n
  made_beside r' n away = ⊎_elim
      (λ ne. ap (λ (z : SeatsAre). seat_end z r' n) h.after_is ∙ ap (λ (z : List (Option EndIs)). end_or (slice_get z n)) (ends_stay s r r' new ne))
      (λ same. subst (λ (z : Role). seat_end t z n ≡ seat_end s z n) (sym same) (ap (λ (z : SeatsAre). seat_end z r n) h.after_is ∙ (ap (λ (z : List (Option EndIs)). end_or (slice_get z n)) (ends_with s r new) ∙ ap end_or (slice_get_beside (ends_of s r) q n (Some after) (λ e. away same e)))))
      (ends_beside s r r' new)

  others : (r' : Role) (n : ℕ) → (r' ≡ role_of d.event.op → n ≡ q → ⊥) → seat_end t r' n ≡ seat_end s r' n
  others r' n away = ⊎_elim
      (λ same. made_beside r' n (λ e. away (e ∙ same)))
      (λ st. unchanged end_or (same_known st) r' n)
      (maker_or d.event.op r h.makes)

  kinds : (r' : Role) (n : ℕ) → (seat_end t r' n).kind ≡ (seat_end s r' n).kind
  kinds = unchanged (λ (z : Option (Option EndIs)). (end_or z).kind) (kind_stays h.before.ring.slots h.before.knows d.event.op d.event.answer (cargo_of d) h.knows h.step)

  pub seat_moves : Moves (seat_end s) d.event (seat_end t)
  seat_moves = record { this = this; others = others; kinds = kinds }

-- a call on one end is a call on the seats
pub made_by : (maker : Role) (s s' : SeatsAre) (d : Deed) (before after : EndIs) → IsMaker d.event.op maker → s ≡ s' → slice_get (ends_of s maker) d.event.queue.0 ≡ Some (Some before) → after.ring ≡ before.ring → EndDid before.ring.slots before.knows d.event.op d.event.answer (cargo_of d) after.knows
    → (d.event.op ≡ Do.Put → IsTimely s before.knows after.knows) → SeatDid s' d (with_ends s maker (slice_set (ends_of s maker) d.event.queue.0 (Some after)))
made_by maker s s' d before after makes same there ring did timely = subst (λ (z : SeatsAre). SeatDid z d (with_ends s maker (slice_set (ends_of s maker) d.event.queue.0 (Some after)))) same record {
  maker = maker;
  makes = makes;
  before = before;
  knows = after.knows;
  there = there;
  step = did;
  timely = timely;
  after_is = ap (λ (z : EndIs). with_ends s maker (slice_set (ends_of s maker) d.event.queue.0 (Some z))) (let e : after ≡ record { ring = before.ring; knows = after.knows } = ap (λ z. record { ring = z; knows = after.knows }) ring in e);
}

-- and of the end of its role
pub seat_did : (s s' : SeatsAre) (d : Deed) (before after : EndIs) → s ≡ s' → slice_get (ends_of s (role_of d.event.op)) d.event.queue.0 ≡ Some (Some before) → after.ring ≡ before.ring → EndDid before.ring.slots before.knows d.event.op d.event.answer (cargo_of d) after.knows
    → (d.event.op ≡ Do.Put → IsTimely s before.knows after.knows) → SeatDid s' d (with_ends s (role_of d.event.op) (slice_set (ends_of s (role_of d.event.op)) d.event.queue.0 (Some after)))
seat_did s s' d before after same there ring did timely = made_by (role_of d.event.op) s s' d before after (own_call d.event.op) same there ring did timely

-- the same of a side that is known
pub plain_side : (o : Side → Op) (side side' : Side) (at : QueueId) (s t : SeatsAre) → side ≡ side' → SeatDid s (plain_deed at (o side')) t → SeatDid s (plain_deed at (o side)) t
plain_side o side side' at s t is h = subst (λ (z : Side). SeatDid s (plain_deed at (o z)) t) (sym is) h

pub look_side : (o : Side → Op) (b : Bool) (side side' : Side) (at : QueueId) (s t : SeatsAre) → side ≡ side' → SeatDid s (look_deed at (o side') b) t → SeatDid s (look_deed at (o side) b) t
look_side o b side side' at s t is h = subst (λ (z : Side). SeatDid s (look_deed at (o z) b) t) (sym is) h

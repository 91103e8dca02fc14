-- How often the ends of an actor looked in vain, call by call.
use Rattle.std.proofs.Common.{◌≡◌, ◌≢◌, ◌⊎◌, inl, inr, ⊎_elim, ◌∙◌, ◌+◌, ◌==◌, ◌&&◌, ℕ, Bool, true, false, List, refl, sym, ap, subst, arith, Option, Some, None, eqb, eq-eqb, ne_eqb, slice_get, slice_set}
use mathlib.Core.Logic.{dite}
use native.Mathlib.Decide.{ℕ_discrete}
use Rattle.wire_core.specs.declared.names.Event.{Event}
use Rattle.wire_core.specs.declared.names.Op.{Op}
use Rattle.wire_core.specs.declared.names.Op.TheVariants as Do
use Rattle.wire_core.specs.declared.names.Answer.{Answer}
use Rattle.wire_core.specs.declared.names.Answer.TheVariants.{Done, Yes, No}
use Rattle.wire_core.specs.Bells.{bit}
use Rattle.wire_core.specs.Deeds.{Deed, cargo_of}
use Rattle.wire_core.specs.Ends.{Role, Consumer, Producer, role_of}
use Rattle.wire_core.specs.Fates.{is_vain_at}
use Rattle.wire_core.specs.Marks.{is_role, is_vain_look}
use Rattle.wire_core.proofs.Places.{slice_get_written, slice_get_beside}
use Rattle.spsc_queue.specs.declared.view.Half.{Half}
use Rattle.spsc_queue.specs.Known.Ends.{EndIs}
use Rattle.spsc_queue.specs.Shown.{more_noes}
use Rattle.spsc_queue.proofs.Rows.{noes_did}
use Rattle.seat_wires.specs.Places.Are.{SeatsAre}
use Rattle.seat_wires.specs.Places.{IsMaker, SeatDid, ends_of, joined_get, stands_at, with_ends}
use Rattle.order_law.specs.Orders.{noes_known, noes_seen}

-- the noes that a call counts are its looks in vain
more_is : (o : Op) (a : Answer) → more_noes o a ≡ bit (is_vain_look o a)
more_is Do.See No = refl
more_is Do.See Yes = refl
more_is Do.See Done = refl
more_is Do.Room No = refl
more_is Do.Room Yes = refl
more_is Do.Room Done = refl
more_is Do.Take a = refl
more_is Do.Put a = refl
more_is (Do.Ask s) a = refl
more_is (Do.Waive s) a = refl
more_is (Do.Wake s) a = refl
more_is (Do.Wanted s) a = refl
more_is (Do.Settle s) a = refl
more_is (Do.Ring s) a = refl
more_is (Do.Store w v) a = refl

-- a look is made at the end of its role
own_look : (o : Op) (a : Answer) (maker : Role) (b : Bool) → IsMaker o maker → (is_vain_look o a && (is_role (role_of o) maker && b)) ≡ (is_vain_look o a && b)
own_look Do.See a maker b makes = subst (λ (r : Role). (is_vain_look Do.See a && (is_role Consumer r && b)) ≡ (is_vain_look Do.See a && b)) (sym makes) refl
own_look Do.Room a maker b makes = subst (λ (r : Role). (is_vain_look Do.Room a && (is_role Producer r && b)) ≡ (is_vain_look Do.Room a && b)) (sym makes) refl
own_look Do.Take a maker b makes = refl
own_look Do.Put a maker b makes = refl
own_look (Do.Ask s) a maker b makes = refl
own_look (Do.Waive s) a maker b makes = refl
own_look (Do.Wake s) a maker b makes = refl
own_look (Do.Wanted s) a maker b makes = refl
own_look (Do.Settle s) a maker b makes = refl
own_look (Do.Ring s) a maker b makes = refl
own_look (Do.Store w v) a maker b makes = refl

-- and at no end of the other role
other_look : (o : Op) (a : Answer) (maker x : Role) (b : Bool) → IsMaker o maker → x ≢ maker → (is_vain_look o a && (is_role (role_of o) x && b)) ≡ false
other_look Do.See No maker Consumer b makes ne = absurd (ne (sym makes))
other_look Do.See No maker Producer b makes ne = refl
other_look Do.See Yes maker x b makes ne = refl
other_look Do.See Done maker x b makes ne = refl
other_look Do.Room No maker Consumer b makes ne = refl
other_look Do.Room No maker Producer b makes ne = absurd (ne (sym makes))
other_look Do.Room Yes maker x b makes ne = refl
other_look Do.Room Done maker x b makes ne = refl
other_look Do.Take a maker x b makes ne = refl
other_look Do.Put a maker x b makes ne = refl
other_look (Do.Ask s) a maker x b makes ne = refl
other_look (Do.Waive s) a maker x b makes ne = refl
other_look (Do.Wake s) a maker x b makes ne = refl
other_look (Do.Wanted s) a maker x b makes ne = refl
other_look (Do.Settle s) a maker x b makes ne = refl
other_look (Do.Ring s) a maker x b makes ne = refl
other_look (Do.Store w v) a maker x b makes ne = refl

and_none : (b : Bool) → (b && false) ≡ false
and_none true = refl
and_none false = refl

and_all : (b : Bool) → (b && true) ≡ b
and_all true = refl
and_all false = refl

two_roles : (r x : Role) → (x ≢ r) ⊎ (x ≡ r)
two_roles Consumer Consumer = inr refl
two_roles Consumer Producer = inl (λ e. cc)
two_roles Producer Consumer = inl (λ e. cc)
two_roles Producer Producer = inr refl

-- a call looks in vain at no other end than its maker's
pub no_vain : (e : Event) (maker : Role) → IsMaker e.op maker → (x : Role) (n : ℕ) → (x ≡ maker → n ≡ e.queue.0 → ⊥) → is_vain_at x n e ≡ false
no_vain e maker makes x n away = ⊎_elim
    (λ ne. other_look e.op e.answer maker x (eqb e.queue.0 n) makes ne)
    (λ same. ap (λ (b : Bool). is_vain_look e.op e.answer && (is_role (role_of e.op) x && b)) (ne_eqb e.queue.0 n (λ at. away same (sym at))) ∙ none (is_vain_look e.op e.answer) (is_role (role_of e.op) x))
    (two_roles maker x)
  where
    none : (a b : Bool) → (a && (b && false)) ≡ false
    none true true = refl
    none true false = refl
    none false b = refl

ends_stay : (s : SeatsAre) (r x : Role) (es : List (Option EndIs)) → x ≢ r → ends_of (with_ends s r es) x ≡ ends_of s x
ends_stay s Consumer Consumer es ne = absurd (ne refl)
ends_stay s Consumer Producer es ne = refl
ends_stay s Producer Consumer es ne = refl
ends_stay s Producer Producer es ne = absurd (ne refl)

ends_with : (s : SeatsAre) (r : Role) (es : List (Option EndIs)) → ends_of (with_ends s r es) r ≡ es
ends_with s Consumer es = refl
ends_with s Producer es = refl

abbrev seen_or : Option (Option EndIs) → ℕ
seen_or x = noes_known (joined_get x)

module _ (s : SeatsAre) (d : Deed) (t : SeatsAre) (h : SeatDid s d t) where
  abbrev r : Role
  r = h.maker

  abbrev q : ℕ
  q = d.event.queue.0

  abbrev new : List (Option EndIs)
  new = slice_set (ends_of s r) q (Some (record { ring = h.before.ring; knows = h.knows }))

  counted : h.knows.noes ≡ h.before.knows.noes + bit (is_vain_look d.event.op d.event.answer)
  counted = let c = noes_did h.before.ring.slots h.before.knows d.event.op d.event.answer (cargo_of d) h.knows h.step in let m = more_is d.event.op d.event.answer in omega (arith, c, m)

  still : (x : Role) (n : ℕ) → noes_seen t x n ≡ noes_seen s x n → is_vain_at x n d.event ≡ false → noes_seen t x n ≡ noes_seen s x n + bit (is_vain_at x n d.event)
  still x n same none = let z = ap bit none in omega (arith, same, z)

  -- a call counts its looks in vain at its end alone
  pub noes_go : (x : Role) (n : ℕ) → noes_seen t x n ≡ noes_seen s x n + bit (is_vain_at x n d.event)
  noes_go x n = ⊎_elim
      (λ ne. still x n (ap (λ (z : SeatsAre). noes_seen z x n) h.after_is ∙ ap (λ (z : List (Option EndIs)). noes_known (stands_at z n)) (ends_stay s r x new ne))
      (other_look d.event.op d.event.answer r x (eqb q n) h.makes ne))
      (λ same. subst (λ (y : Role). noes_seen t y n ≡ noes_seen s y n + bit (is_vain_at y n d.event)) (sym same) (dite (ℕ_discrete q n)
      (λ at. subst (λ (m : ℕ). noes_seen t r m ≡ noes_seen s r m + bit (is_vain_at r m d.event)) at here)
      (λ ne. still r n (ap (λ (z : SeatsAre). noes_seen z r n) h.after_is ∙ (ap (λ (z : List (Option EndIs)). noes_known (stands_at z n)) (ends_with s r new) ∙ ap seen_or (slice_get_beside (ends_of s r) q n (Some (record { ring = h.before.ring; knows = h.knows })) (λ e. ne (sym e)))))
      (ap (λ (b : Bool). is_vain_look d.event.op d.event.answer && (is_role (role_of d.event.op) r && b)) (ne_eqb q n ne) ∙ (own_look d.event.op d.event.answer r false h.makes ∙ and_none (is_vain_look d.event.op d.event.answer))))))
      (two_roles r x)
    where
      here : noes_seen t r q ≡ noes_seen s r q + bit (is_vain_at r q d.event)
      here =
          let now : noes_seen t r q ≡ h.knows.noes = ap (λ (z : SeatsAre). noes_seen z r q) h.after_is ∙ (ap (λ (z : List (Option EndIs)). noes_known (stands_at z q)) (ends_with s r new) ∙ ap seen_or (slice_get_written (ends_of s r) q (Some h.before) (Some (record { ring = h.before.ring; knows = h.knows })) h.there)) in
          let was : noes_seen s r q ≡ h.before.knows.noes = ap seen_or h.there in
          let vain : bit (is_vain_at r q d.event) ≡ bit (is_vain_look d.event.op d.event.answer) = ap bit (ap (λ (b : Bool). is_vain_look d.event.op d.event.answer && (is_role (role_of d.event.op) r && b)) (eq-eqb q q refl) ∙ (own_look d.event.op d.event.answer r true h.makes ∙ and_all (is_vain_look d.event.op d.event.answer))) in
          let more = counted in
          omega (arith, now, was, vain, more)

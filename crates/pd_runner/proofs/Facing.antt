-- An actor apart sits at its ends by place as it stood apart, and stands apart as it sat.
use Rattle.std.proofs.Common.{◌≡◌, ◌∙◌, ℕ, List, refl, sym, ap, arith, Option, Some, None, slice_get}
use Rattle.wire_core.specs.declared.names.Event.{Event}
use Rattle.wire_core.specs.declared.names.QueueId.{QueueId}
use Rattle.wire_core.specs.declared.names.QueueRow.{QueueRow}
use Rattle.wire_core.specs.Ends.{Role, Consumer, Producer}
use Rattle.wire_core.specs.Journal.{owner_of}
use Rattle.spsc_queue.specs.Known.Ends.{EndIs, RingIs}
use Rattle.seat_wires.specs.Places.Are.{SeatsAre}
use Rattle.seat_wires.specs.Places.{EndsOn, ends_of, stands_at, joined_get, seat_end, end_known, entries_known}
use Rattle.seat_wires.specs.Went.{Went, ring_known, sort_known}
use Rattle.order_law.specs.ActorParts.Parting.{Apart, ends_at, end_in, apart_end, apart_passed, HasItsEnds}
use Rattle.order_law.specs.ActorParts.Numbered.{numbered}
use Rattle.pd_runner.specs.Running.{passed_at}
use Rattle.order_law.specs.ActorParts.Going.{AreSeatsOf}
use Rattle.order_law.proofs.ActorParts.Standing.{found, first_found}
use Rattle.order_law.proofs.ActorParts.Numbering.{numbered_from, found_from, once}

module _ (rings : List RingIs) (p : Apart) (s : SeatsAre) (are : AreSeatsOf rings p s) where
  -- what the actor knows of its ends is the same
  pub ends_same : seat_end s ≡ apart_end p
  ends_same = λ i r n. ends_at_is r n i
    where
      ends_at_is : (r : Role) (n : ℕ) → seat_end s r n ≡ apart_end p r n
      ends_at_is Consumer n = ap end_known (are.same Consumer n)
      ends_at_is Producer n = ap end_known (are.same Producer n)

  -- and what passed there
  pub passed_same : (calls : List Event) → passed_at s calls ≡ apart_passed p calls
  passed_same calls = λ i. record { taken = λ n. ap entries_known (are.same Consumer n) i; sent = λ n. ap entries_known (are.same Producer n) i; calls = calls }

  -- each end is of the ring at its place
  pub ends_on : ((r : Role) (i : ℕ) (x : QueueId × EndIs) → slice_get (ends_at p r) i ≡ Some x → (ring : RingIs) × (slice_get rings x.0.0 ≡ Some ring) × (x.1.ring ≡ ring.id)) → (r : Role) → EndsOn s.rings (ends_of s r)
  ends_on on r k e is = let there : end_in (ends_at p r) k ≡ Some e = sym (are.same r k) ∙ ap joined_get is in let f = found (ends_at p r) k e there in let h = on r f.0 f.1 f.2 in
      (h.0, ap (λ (l : List RingIs). slice_get l k) are.rings_are ∙ (ap (λ (m : ℕ). slice_get rings m) (sym f.3) ∙ h.1), ap (λ (z : EndIs). z.ring) (sym f.4) ∙ h.2)

place_there : (x : Option (Option EndIs)) (e : EndIs) → joined_get x ≡ Some e → x ≡ Some (Some e)
place_there None e is = cc
place_there (Some None) e is = cc
place_there (Some (Some y)) e is = ap (λ (z : Option EndIs). Some z) is

-- ends with their numbers are those at the places
pub seats_numbered : (rings : List RingIs) (p : Apart) (s : SeatsAre) → s.rings ≡ rings → ((r : Role) → ends_at p r ≡ numbered 0 (ends_of s r)) → AreSeatsOf rings p s
seats_numbered rings p s is ends = record { rings_are = is; same = λ r n. sym (ap (λ l. end_in l n) (ends r) ∙ found_from 0 (ends_of s r) n n (omega arith)) }

-- and no two of them are of one queue, each of the ring at its place
pub numbered_once : (p : Apart) (s : SeatsAre) → ((r : Role) → ends_at p r ≡ numbered 0 (ends_of s r)) → (r : Role) (i j : ℕ) (x y : QueueId × EndIs) → slice_get (ends_at p r) i ≡ Some x → slice_get (ends_at p r) j ≡ Some y → x.0.0 ≡ y.0.0 → i ≡ j
numbered_once p s ends r i j x y at_x at_y same = once 0 (ends_of s r) i j x y (ap (λ l. slice_get l i) (sym (ends r)) ∙ at_x) (ap (λ l. slice_get l j) (sym (ends r)) ∙ at_y) same

pub numbered_on : (p : Apart) (s : SeatsAre) → ((r : Role) → ends_at p r ≡ numbered 0 (ends_of s r)) → ((r : Role) → EndsOn s.rings (ends_of s r)) → (r : Role) (i : ℕ) (x : QueueId × EndIs) → slice_get (ends_at p r) i ≡ Some x → (ring : RingIs) × (slice_get s.rings x.0.0 ≡ Some ring) × (x.1.ring ≡ ring.id)
numbered_on p s ends on r i x at = let h = numbered_from 0 (ends_of s r) i x (ap (λ l. slice_get l i) (sym (ends r)) ∙ at) in let o = on r h.0 x.1 h.2 in (o.0, ap (λ (m : ℕ). slice_get s.rings m) (let e = h.1 in omega (arith, e)) ∙ o.1, o.2)

pub known_there : (x y : Option EndIs) (e : EndIs) → ring_known y ≡ ring_known x → x ≡ Some e → (f : EndIs) × (y ≡ Some f)
known_there x None e same is = absurd (let z : ring_known x ≡ Some e.ring = ap ring_known is in cc)
known_there x (Some f) e same is = (f, refl)

-- where its ends stayed, each was there and knew of the same sort of ring
pub record WasThere (p : Apart) (r : Role) (x : QueueId × EndIs) : Type 0 where
  pub place : ℕ
  pub old : QueueId × EndIs
  pub there : slice_get (ends_at p r) place ≡ Some old
  pub queue : old.0.0 ≡ x.0.0
  pub sort : x.1.knows.wild ≡ old.1.knows.wild

pub was_there : (rings : List RingIs) (n : ℕ) (p q : Apart) (s t : SeatsAre) → AreSeatsOf rings p s → ((r : Role) → ends_at q r ≡ numbered 0 (ends_of t r)) → Went s n t → (r : Role) (i : ℕ) (x : QueueId × EndIs) → slice_get (ends_at q r) i ≡ Some x → WasThere p r x
was_there rings n p q s t before ends went r i x at =
    let h = numbered_from 0 (ends_of t r) i x (ap (λ l. slice_get l i) (sym (ends r)) ∙ at) in
    let now : stands_at (ends_of t r) h.0 ≡ Some x.1 = ap joined_get h.2 in
    let was = known_there (stands_at (ends_of t r) h.0) (stands_at (ends_of s r) h.0) x.1 (sym (went.ends r h.0)) now in
    let f = found (ends_at p r) h.0 was.0 (sym (before.same r h.0) ∙ was.1) in record {
      place = f.0;
      old = f.1;
      there = f.2;
      queue = let a = f.3 in let b = h.1 in omega (arith, a, b);
      sort = sym (ap sort_known now) ∙ (went.sorts r h.0 ∙ (ap sort_known was.1 ∙ sym (ap (λ (e : EndIs). e.knows.wild) f.4)));
    }

-- where its ends stayed, it has just those that the rows give it
pub own_ends : (rows : List QueueRow) (k n : ℕ) (rings : List RingIs) (p q : Apart) (s t : SeatsAre) → AreSeatsOf rings p s → AreSeatsOf rings q t → Went s n t → HasItsEnds rows k p → HasItsEnds rows k q
own_ends rows k n rings p q s t before after went has = record {
  own = λ r i x at. own r i x at;
  all = λ r m row is owner. (
      let old = has.all r m row is owner in
      let now = known_there (stands_at (ends_of s r) m) (stands_at (ends_of t r) m) old.0 (went.ends r m) (before.same r m ∙ old.1) in
      (now.0, sym (after.same r m) ∙ now.1)
      );
}
  where
    own : (r : Role) (i : ℕ) (x : QueueId × EndIs) → slice_get (ends_at q r) i ≡ Some x → (row : QueueRow) × (slice_get rows x.0.0 ≡ Some row) × (owner_of row r ≡ k)
    own r i x at = let there = first_found (ends_at q r) i x at in let was = known_there (stands_at (ends_of t r) x.0.0) (stands_at (ends_of s r) x.0.0) there.0 (sym (went.ends r x.0.0)) (after.same r x.0.0 ∙ there.1) in
        let f = found (ends_at p r) x.0.0 was.0 (sym (before.same r x.0.0) ∙ was.1) in let h = has.own r f.0 f.1 f.2 in (h.0, ap (λ (m : ℕ). slice_get rows m) (sym f.3) ∙ h.1, h.2)

-- Actors that were set apart over new rings stand there as they should.
use Rattle.std.proofs.Common.{◌≡◌, ℕ, Bool, true, not, nat_lt, Option, Some, List, [], ◌∷◌, length, map, slice_get, refl, sym, ap, ◌∙◌, subst, arith, ◌+◌}
use Rattle.std.specs.List.{AllZip, zip}
use Rattle.std.proofs.lemmas.Bool.{lt-ltb}
use Rattle.std.proofs.lemmas.Option.{get_or_from_slice_get}
use Rattle.play_core.proofs.Lists.{map_get, map_from, there_below}
use Rattle.cargo_core.specs.declared.item.QueueKind.{QueueKind}
use Rattle.wire_core.specs.declared.names.QueueId.{QueueId}
use Rattle.wire_core.specs.declared.names.QueueRow.{QueueRow}
use Rattle.wire_core.specs.Ends.{Role, Consumer, Producer, End}
use Rattle.wire_core.specs.Journal.{Hostiles, is_calm, owner_of}
use Rattle.wire_core.specs.Lists.{nothing_passed}
use Rattle.wire_core.specs.Queues.{Queue, starts, start_queue, no_queue, queue_at, end_at, end_of}
use Rattle.spsc_queue.specs.Known.Ends.{EndIs, RingIs}
use Rattle.seat_wires.specs.Places.{end_known, entries_known}
use Rattle.seat_wires.specs.Times.{times_known}
use Rattle.actor_set.specs.Actors.{ActorEnd, IsWhole, part_anew, part_of}
use Rattle.actor_set.specs.Parts.{Part}
use Rattle.actor_set.specs.declared.actor.Actor.{Actor}
use Rattle.actor_set.specs.Laws.Kinds.{hostiles, manner_of}
use Rattle.play_core.specs.Manners.{is_hostile}
use Rattle.actor_set.proofs.LawsLemmas.Alike.{alike_same}
use Rattle.actor_set.proofs.LawsLemmas.Beside.{stands_beside}
use Rattle.actor_set.proofs.LawsLemmas.Starts.{fits_whole}
use Rattle.actor_set.proofs.LawsLemmas.PartEnds.{PartEnd, to_part, from_anew}
use Rattle.actor_set.specs.Adopting.Looks.{SameButLook}
use Rattle.actor_set.proofs.AdoptingLemmas.Looks.{fits_anew}
use Rattle.order_law.specs.ActorParts.Parting.{Apart, ends_at, end_in, apart_end, apart_passed, hostile_apart, IsRingOf, StandsApart, HasItsEnds, AreApart}
use Rattle.order_law.specs.ActorParts.Opening.{opened_from, first_half, IsForgotten}
use Rattle.order_law.specs.ActorParts.Given.{Kept, apart_of}
use Rattle.order_law.specs.ActorParts.Opened.{AreOpened, HaveNothing, AreAsOpened}
use Rattle.order_law.specs.ActorParts.Ready.{AreReady}
use Rattle.order_law.proofs.EndedLemmas.Lists.{all_at}
use Rattle.order_law.proofs.ActorParts.Hosting.{parts_anew, kept_hostiles, hostile_at, beside_hostile}
use Rattle.order_law.proofs.ActorParts.Opens.{hosts_same}
use Rattle.order_law.proofs.ActorParts.Numbers.{fresh, fresh_empty, fresh_untimed, ComesFrom, comes_from, opened_once, opened_empty, end_opened, zip_there, ring_there}

same_ring : (x y : RingIs) → Some x ≡ Some y → x ≡ y
same_ring x y e = cc

queue_there : (rows : List QueueRow) (n : ℕ) (row : QueueRow) → slice_get rows n ≡ Some row → queue_at (starts rows) n ≡ start_queue row
queue_there rows n row at = get_or_from_slice_get (starts rows) n (start_queue row) no_queue (map_get start_queue rows n row at)

-- a new ring's end is that of a queue in its start state
fresh_end : (rows : List QueueRow) (n : ℕ) (row : QueueRow) (ring : RingIs) (r : Role) → slice_get rows n ≡ Some row → SameButLook (end_at (starts rows) r n) (end_known (Some (fresh r (row, ring))))
fresh_end rows n row ring r at = subst (λ (e : End). SameButLook e (end_known (Some (fresh r (row, ring))))) (sym start) (as_start r)
  where
    here : nat_lt n (length (starts rows)) ≡ true
    here = lt-ltb n (length (starts rows)) (there_below (starts rows) n (start_queue row) (map_get start_queue rows n row at))

    start : end_at (starts rows) r n ≡ end_of true row.kind (start_queue row).bells r
    start = ap (λ (b : Bool). end_of b (queue_at (starts rows) n).kind (queue_at (starts rows) n).bells r) here ∙ ap (λ (q : Queue). end_of true q.kind q.bells r) (queue_there rows n row at)

    as_start : (r : Role) → SameButLook (end_of true row.kind (start_queue row).bells r) (end_known (Some (fresh r (row, ring))))
    as_start Consumer = record { owned = refl; kind = refl; waiter = refl; ringer = refl }
    as_start Producer = record { owned = refl; kind = refl; waiter = refl; ringer = refl }

-- nothing passed yet, and the parts are those of the actors
module _ (rows : List QueueRow) (actors : List Actor) (rings : List RingIs) (parts : List Kept) (opened : AreOpened rows actors rings parts) where
  pub have_nothing : HaveNothing (map apart_of parts)
  have_nothing k q at r n =
      let p = map_from apart_of parts k q at in
      let ends : ends_at q r ≡ opened_from r k 0 (zip rows rings) = ap (λ (a : Apart). ends_at a r) (sym p.2) ∙ opened.ends k p.0 p.1 r in (
        ap (λ (l : List (QueueId × EndIs)). entries_known (end_in l n)) ends ∙ opened_empty entries_known refl fresh_empty r k 0 (zip rows rings) n,
        ap (λ (l : List (QueueId × EndIs)). times_known (end_in l n)) ends ∙ opened_empty times_known refl fresh_untimed r k 0 (zip rows rings) n,
      )

  pub as_opened : AreAsOpened rows (map apart_of parts)
  as_opened k q at r i x there =
      let p = map_from apart_of parts k q at in
      let ends : ends_at q r ≡ opened_from r k 0 (zip rows rings) = ap (λ (a : Apart). ends_at a r) (sym p.2) ∙ opened.ends k p.0 p.1 r in
      let c = comes_from r k 0 (zip rows rings) i x (ap (λ (l : List (QueueId × EndIs)). slice_get l i) (sym ends) ∙ there) in
      let e : x.0.0 ≡ c.place = (let m = c.number in omega (arith, m)) in
      let z = zip_there rows rings x.0.0 c.pair (ap (slice_get (zip rows rings)) e ∙ c.there) in
      let of_row = all_at (IsRingOf (hostiles (map part_of actors))) rows rings opened.rings_are x.0.0 c.pair.0 c.pair.1 z.0 z.1 in
      let hosts : hostiles (map part_of actors) ≡ hostile_apart (map apart_of parts) = sym (kept_hostiles parts ∙ hosts_same rows actors rings parts opened) in
      (c.pair.0, z.0, ap (λ (y : EndIs). y.knows) c.is ∙ ap (first_half r c.pair.0.kind) (of_row.2 ∙ ap (λ (h : Hostiles). not (is_calm h c.pair.0)) hosts))

  pub same_cast : map (λ (p : Kept). part_of p.0.actor) parts ≡ map part_anew actors
  same_cast = parts_anew actors parts opened.many (λ k p at. let x = opened.actors_are k p at in (x.0, x.1, x.2.part))

module _ (rows : List QueueRow) (actors : List Actor) (rings : List RingIs) (parts : List Kept) (opened : AreOpened rows actors rings parts) (ready : AreReady rows actors) where
  module _ (k : ℕ) (p : Kept) (at : slice_get parts k ≡ Some p) where
    abbrev a : Apart
    a = apart_of p

    abbrev pairs : List (QueueRow × RingIs)
    pairs = zip rows rings

    ends_are : (r : Role) → ends_at a r ≡ opened_from r k 0 pairs
    ends_are r = opened.ends k p at r

    was : (x : Actor) × (slice_get actors k ≡ Some x) × IsForgotten x p.0.actor
    was = opened.actors_are k p at

    from : (r : Role) (i : ℕ) (x : QueueId × EndIs) → slice_get (ends_at a r) i ≡ Some x → ComesFrom r k 0 pairs x
    from r i x h = comes_from r k 0 pairs i x (ap (λ (l : List (QueueId × EndIs)). slice_get l i) (sym (ends_are r)) ∙ h)

    number : (r : Role) (i : ℕ) (x : QueueId × EndIs) (h : slice_get (ends_at a r) i ≡ Some x) → slice_get pairs x.0.0 ≡ Some (from r i x h).pair
    number r i x h = let c = from r i x h in let e : x.0.0 ≡ c.place = (let m = c.number in omega (arith, m)) in ap (slice_get pairs) e ∙ c.there

    -- the end of a queue whose row names the actor
    end_there : (r : Role) (n : ℕ) (row : QueueRow) → slice_get rows n ≡ Some row → owner_of row r ≡ k → (ring : RingIs) × (end_in (ends_at a r) n ≡ Some (fresh r (row, ring)))
    end_there r n row there own =
        let g = ring_there (IsRingOf (hostiles (map part_of actors))) rows rings opened.rings_are n row there in
        (g.0, ap (λ (l : List (QueueId × EndIs)). end_in l n) (ends_are r) ∙ (ap (end_in (opened_from r k 0 pairs)) (let e : n ≡ 0 + n = omega arith in e) ∙ end_opened r k 0 pairs n (row, g.0) g.1 own))

    has_ends : HasItsEnds rows k a
    has_ends = record {
      own = λ r i x h. let c = from r i x h in let z = zip_there rows rings x.0.0 c.pair (number r i x h) in (c.pair.0, z.0, c.owner);
      all = λ r n row there own. let e = end_there r n row there own in (fresh r (row, e.0), e.1);
    }

    whole : IsWhole p.0.actor
    whole = fits_whole (end_at (starts rows)) p.0.actor (was.2.fits (end_at (starts rows)) (ready.fits k was.0 was.1))

    -- one of its ends is one that it had
    owned : (r : Role) (n : ℕ) → ActorEnd p.0.actor r n → (row : QueueRow) × (slice_get rows n ≡ Some row) × (owner_of row r ≡ k)
    owned r n e = ready.owners k was.0 was.1 r n (from_anew was.0 r n (subst (λ (q : Part). PartEnd q r n) was.2.part (to_part p.0.actor r n whole e)))

    nothing_known : (r : Role) (n : ℕ) → ActorEnd p.0.actor r n → entries_known (end_in (ends_at a r) n) ≡ []
    nothing_known r n e = let o = owned r n e in let x = end_there r n o.0 o.1 o.2 in ap entries_known x.1 ∙ empty r o.0 x.0
      where
        empty : (r : Role) (row : QueueRow) (ring : RingIs) → (fresh r (row, ring)).knows.entries ≡ []
        empty Consumer row ring = refl
        empty Producer row ring = refl

    first_sort : (r : Role) (kind : QueueKind) (wild : Bool) → (first_half r kind wild).wild ≡ wild
    first_sort Consumer kind wild = refl
    first_sort Producer kind wild = refl

    sort_is : (r : Role) (i : ℕ) (x : QueueId × EndIs) (h : slice_get (ends_at a r) i ≡ Some x) → x.1.knows.wild ≡ (from r i x h).pair.1.wild
    sort_is r i x h = let c = from r i x h in ap (λ (e : EndIs). e.knows.wild) c.is ∙ first_sort r c.pair.0.kind c.pair.1.wild

    here_hostile : hostiles (map part_of actors) k ≡ is_hostile (manner_of (part_of p.0.actor))
    here_hostile = ap (λ (h : Hostiles). h k) (sym (kept_hostiles parts ∙ hosts_same rows actors rings parts opened)) ∙ hostile_at (map apart_of parts) k a (map_get apart_of parts k p at)

    stands_there : StandsApart rings a
    stands_there = record {
      once = λ r i j x y h g same. opened_once r k 0 pairs i j x y (ap (λ (l : List (QueueId × EndIs)). slice_get l i) (sym (ends_are r)) ∙ h) (ap (λ (l : List (QueueId × EndIs)). slice_get l j) (sym (ends_are r)) ∙ g) same;
      on = λ r i x h. let c = from r i x h in let z = zip_there rows rings x.0.0 c.pair (number r i x h) in (c.pair.1, z.1, ap (λ (e : EndIs). e.ring) c.is);
      sorts = λ r i x h ring there. let c = from r i x h in let z = zip_there rows rings x.0.0 c.pair (number r i x h) in sort_is r i x h ∙ ap (λ (g : RingIs). g.wild) (same_ring c.pair.1 ring (sym z.1 ∙ there));
      wild = λ hostile r i x h.
          let c = from r i x h in
          let z = zip_there rows rings x.0.0 c.pair (number r i x h) in
          let of_row = all_at (IsRingOf (hostiles (map part_of actors))) rows rings opened.rings_are x.0.0 c.pair.0 c.pair.1 z.0 z.1 in
          sort_is r i x h ∙ (of_row.2 ∙ beside_hostile (hostiles (map part_of actors)) c.pair.0 r k c.owner (here_hostile ∙ hostile));
      fits = fits_anew (end_at (starts rows)) (apart_end a) was.0 p.0.actor was.2.forgot
          (λ r n e. let o = owned r n e in let x = end_there r n o.0 o.1 o.2 in subst (λ (y : Option EndIs). SameButLook (end_at (starts rows) r n) (end_known y)) (sym x.1) (fresh_end rows n o.0 x.0 r o.1))
          (was.2.fits (end_at (starts rows)) (ready.fits k was.0 was.1));
      stands = ([], stands_beside nothing_passed (apart_passed a []) p.0.actor whole (alike_same p.0.actor []) (λ n e. nothing_known Consumer n e) (λ n e. nothing_known Producer n e) (was.2.stands nothing_passed (ready.stands k was.0 was.1)));
      fine = opened.fine k p at;
    }

  pub are_apart : AreApart rows rings (map apart_of parts)
  are_apart = record {
    rings_are = subst (λ (h : Hostiles). AllZip (IsRingOf h) rows rings) (sym (kept_hostiles parts ∙ hosts_same rows actors rings parts opened)) opened.rings_are;
    ends = λ k q at. let p = map_from apart_of parts k q at in subst (HasItsEnds rows k) p.2 (has_ends k p.0 p.1);
    stand = λ k q at. let p = map_from apart_of parts k q at in subst (StandsApart rings) p.2 (stands_there k p.0 p.1);
  }

-- An actor apart whose ends were put at the places of their queues sits there.
use Rattle.std.proofs.Common.{◌≡◌, ◌∙◌, ◌≤◌, ℕ, List, length, refl, sym, ap, subst, arith, Option, slice_get}
use Rattle.wire_core.specs.Ends.{Role, Consumer, Producer, End}
use Rattle.wire_core.specs.Lists.{Passed}
use Rattle.wire_core.specs.declared.names.QueueId.{QueueId}
use Rattle.spsc_queue.specs.Known.Ends.{EndIs, RingIs}
use Rattle.seat_wires.specs.Places.{stands_at, ends_of}
use Rattle.actor_set.specs.Actors.{FitsActor, ActorStandsFor}
use Rattle.actor_set.specs.declared.actor.Actor.{Actor}
use Rattle.order_law.specs.declared.actor_parts.worker.Worker.{Worker}
use Rattle.order_law.specs.ActorParts.Given.{Kept, apart_of}
use Rattle.order_law.specs.ActorParts.Going.{AreSeatsOf}
use Rattle.order_law.specs.ActorParts.Parting.{ends_at, end_in}
use Rattle.order_law.specs.ActorParts.Placing.{AreWithin}
use Rattle.order_law.proofs.ActorParts.Places.{get_within}
use Rattle.order_law.proofs.ActorParts.Standing.{found, length_placed, stands_placed}
use Rattle.pd_runner.specs.declared.part.Part.{Part}
use Rattle.pd_runner.specs.Running.{AreWild, Stands, part_seats}
use Rattle.pd_runner.specs.Seated.{ArePlaced, IsApart, IsSeated}
use Rattle.pd_runner.proofs.Facing.{ends_same, passed_same, ends_on}

module _ (rings : List RingIs) (k : Kept) (apart : IsApart rings k) where
  pub ends_within : (r : Role) → AreWithin (length rings) (ends_at (apart_of k) r)
  ends_within r i x at = let on = apart.on r i x at in get_within rings x.0.0 on.0 on.1

  pub stands_there : (r : Role) (places : List (Option EndIs)) → ArePlaced (length rings) (ends_at (apart_of k) r) places → (n : ℕ) → stands_at places n ≡ end_in (ends_at (apart_of k) r) n
  stands_there r places put n = ap (λ l. stands_at l n) put.3 ∙ stands_placed (ends_at (apart_of k) r) put.0 n (subst (λ many. AreWithin many (ends_at (apart_of k) r)) (sym put.2) (ends_within r)) (λ i j x y at there same. apart.once r i j x y at there same) put.1

  few_places : length rings ≤ 65536 → (ends : List (QueueId × EndIs)) (places : List (Option EndIs)) → ArePlaced (length rings) ends places → length places ≤ 65536
  few_places few ends places put = let e : length places ≡ length rings = ap length put.3 ∙ (length_placed ends put.0 ∙ put.2) in omega (arith, e, few)

  module _ (few : length rings ≤ 65536) (p : Part) (same : p.worker ≡ k.0) (producers : ArePlaced (length rings) k.1.items p.producers.items) (consumers : ArePlaced (length rings) k.2.items p.consumers.items) where
    are_seats : AreSeatsOf rings (apart_of k) (part_seats rings p)
    are_seats = record { rings_are = refl; same = λ r n. at r n }
      where
        at : (r : Role) (n : ℕ) → stands_at (ends_of (part_seats rings p) r) n ≡ end_in (ends_at (apart_of k) r) n
        at Consumer n = stands_there Consumer p.consumers.items consumers n
        at Producer n = stands_there Producer p.producers.items producers n

    stand : Stands rings p
    stand = record {
      producers = ends_on rings (apart_of k) (part_seats rings p) are_seats apart.on Producer;
      consumers = ends_on rings (apart_of k) (part_seats rings p) are_seats apart.on Consumer;
      few_producers = few_places few k.1.items p.producers.items producers;
      few_consumers = few_places few k.2.items p.consumers.items consumers;
      sits = record {
        fits = subst (λ (z : (Role → ℕ → End) × Actor). FitsActor z.0 z.1) (λ i. (sym (ends_same rings (apart_of k) (part_seats rings p) are_seats) i, (sym same i).actor)) apart.fits;
        lists = (apart.stands.0, subst (λ (z : Actor × Passed). ActorStandsFor z.0 z.1) (λ i. ((sym same i).actor, sym (passed_same rings (apart_of k) (part_seats rings p) are_seats apart.stands.0) i)) apart.stands.1);
      };
    }

    are_wild : AreWild k.0.actor (part_seats rings p)
    are_wild hostile r n e at =
        let f = found (ends_at (apart_of k) r) n e (sym (are_seats.same r n) ∙ at) in
        let on = apart.on r f.0 f.1 f.2 in
        (on.0, ap (slice_get rings) (sym f.3) ∙ on.1, sym (apart.sorts r f.0 f.1 f.2 on.0 on.1) ∙ apart.wild hostile r f.0 f.1 f.2)

    pub seated : IsSeated rings k p
    seated = record { worker = same; seats = are_seats; ready = record { stands = stand; wild = subst (λ (w : Worker). AreWild w.actor (part_seats rings p)) (sym same) are_wild; fine = ap (λ (w : Worker). w.wanted) same ∙ apart.fine } }

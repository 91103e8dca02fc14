-- Queues that go on from ended rings.
use Rattle.std.proofs.Common.{◌≡◌, ◌+◌, ◌++◌, ℕ, Bool, true, false, not, nat_lt, Some, List, All, length, length-append, slice_get, refl, sym, ap, ◌∙◌, subst, arith}
use Rattle.std.specs.List.{zip}
use Rattle.std.proofs.lemmas.Bool.{lt-ltb}
use Rattle.std.proofs.lemmas.List.{length-map, map-append}
use Rattle.std.proofs.Math.Seq.{drop-append_seam}
use Rattle.std.proofs.lemmas.List.Elements.{All-drop}
use Rattle.std.proofs.lemmas.Option.{get_or_from_slice_get}
use Rattle.cargo_core.specs.Items.{kind_of}
use Rattle.cargo_core.specs.declared.item.QueueKind.{QueueKind}
use Rattle.wire_core.specs.declared.names.QueueRow.{QueueRow}
use Rattle.wire_core.specs.declared.names.BellState.{BellState}
use Rattle.wire_core.specs.Deeds.{Cargo}
use Rattle.wire_core.specs.Bells.{BellHolds}
use Rattle.wire_core.specs.Ends.{Role, Consumer, Producer, End}
use Rattle.wire_core.specs.Journal.{Hostiles, Track, Tally, is_calm, IsShown, TrackHolds, Flows, history_at, start_track, owner_of, is_sent, is_open}
use Rattle.wire_core.specs.Queues.{Queue, queue_at, no_queue, end_at, end_of, items_of}
use Rattle.spsc_queue.specs.declared.view.Half.{Half}
use Rattle.spsc_queue.specs.Known.Ends.{EndIs, RingIs, EndedIs}
use Rattle.spsc_queue.specs.Steps.{steps_made}
use Rattle.seat_wires.specs.Places.{end_known}
use Rattle.play_core.specs.Still.{IsPeopled}
use Rattle.play_core.proofs.Lists.{some_is, map_get, there_is, there_below}
use Rattle.plain_wires.specs.Adopted.{IsEndedOf, adopted, all_adopted}
use Rattle.actor_set.specs.declared.actor.Actor.{Actor}
use Rattle.actor_set.specs.Adopting.Looks.{SameButLook}
use Rattle.actor_set.proofs.AdoptingLemmas.Looks.{fits_anew}
use Rattle.order_law.specs.ActorParts.Parting.{Apart, AreApart, IsRingOf, apart_end, hostile_apart}
use Rattle.order_law.specs.ActorParts.Finished.{HasEnded, OwnEnd, AreFinished}
use Rattle.order_law.specs.Ended.Tracks.{track_of, TellsEnds}
use Rattle.order_law.specs.Ended.Leaving.{history_left, GoesOnAt, AreLeft}
use Rattle.order_law.proofs.EndedLemmas.Lists.{zip_get, zip_length, zip_all, all_at, all_long, same_less}

-- of one queue, where its ring had this
module _ (hostile : Hostiles) (row : QueueRow) (ring : RingIs) (p c : EndIs) (e : EndedIs) (of_ring : IsRingOf hostile row ring) (has : HasEnded ring p c e) where
  sent_is : e.producer.entries ≡ p.knows.entries
  sent_is = ap (λ (h : Half). h.entries) has.producer

  taken_is : e.consumer.entries ≡ c.knows.entries
  taken_is = ap (λ (h : Half). h.entries) has.consumer

  rest_is : e.producer.entries ≡ e.consumer.entries ++ e.left
  rest_is = sent_is ∙ (has.rest ∙ ap (λ (l : List Cargo). l ++ e.left) (sym taken_is))

  pub items_are : items_of e.producer.entries ≡ items_of e.consumer.entries ++ items_of e.left
  items_are = ap items_of rest_is ∙ map-append (λ (x : Cargo). x.0) e.consumer.entries e.left

  sent_long : length (items_of e.producer.entries) ≡ length (items_of e.consumer.entries) + length e.left
  sent_long = let a = length-map e.producer.entries (λ (x : Cargo). x.0) in let b = length-map e.consumer.entries (λ (x : Cargo). x.0) in let d = ap length rest_is in omega (arith, a, b, d, length-append e.consumer.entries e.left)

  pub ring_shown : IsShown row (adopted (row, e)) (track_of e)
  ring_shown = record { kind = refl; capacity = refl; producer = refl; consumer = refl; lists = items_are; bells = refl }

  pub ring_flows : Flows row (track_of e)
  ring_flows = record {
    begins = (items_of e.left, sym items_are);
    within = let few = has.few in let cap = of_ring.1 in let long = sent_long in omega (arith, few, cap, long);
  }

  sent_count : length (items_of e.producer.entries) ≡ length p.knows.entries
  sent_count = length-map e.producer.entries (λ (x : Cargo). x.0) ∙ ap length sent_is

  taken_count : length (items_of e.consumer.entries) ≡ length c.knows.entries
  taken_count = length-map e.consumer.entries (λ (x : Cargo). x.0) ∙ ap length taken_is

  sent_same : is_sent (track_of e) ≡ nat_lt 0 (length e.left)
  sent_same = let long = sent_long in same_less (length (items_of e.consumer.entries)) (length (items_of e.producer.entries)) 0 (length e.left) (λ lt. omega (arith, lt, long)) (λ le. omega (arith, le, long))

  open_same : is_open row (track_of e) ≡ nat_lt (length e.left) ring.id.slots
  open_same = let long = sent_long in let cap = of_ring.1 in same_less (length (items_of e.producer.entries)) (length (items_of e.consumer.entries) + row.capacity) (length e.left) ring.id.slots (λ lt. omega (arith, lt, long, cap)) (λ le. omega (arith, le, long, cap))

  -- where no end was hostile the ring wasn't wild
  tame : is_calm hostile row ≡ true → ring.wild ≡ false
  tame calm = of_ring.2 ∙ ap not calm

  pub ring_holds : is_calm hostile row ≡ true → TrackHolds row (track_of e)
  ring_holds calm = let bells = has.bells (tame calm) in record {
    forward = subst (λ (b : Bool). BellHolds e.forward b (length (items_of e.producer.entries))) (sym sent_same) (subst (λ (n : ℕ). BellHolds e.forward (nat_lt 0 (length e.left)) n) (sym sent_count) bells.0);
    backward = subst (λ (b : Bool). BellHolds e.backward b (length (items_of e.consumer.entries))) (sym open_same) (subst (λ (n : ℕ). BellHolds e.backward (nat_lt (length e.left) ring.id.slots) n) (sym taken_count) bells.1);
  }

  pub ring_tells : TellsEnds p.knows c.knows (track_of e)
  ring_tells = record {
    sent = ap items_of sent_is;
    taken = ap items_of taken_is;
    forward = has.forward;
    backward = has.backward;
    words = λ wild. has.told (sym has.producer_sort ∙ wild);
    producer = ap (λ (h : Half). let t : Tally = record { noes = h.noes; steps = steps_made h } in t) has.producer;
    consumer = ap (λ (h : Half). let t : Tally = record { noes = h.noes; steps = steps_made h } in t) has.consumer;
  }

  pub ring_kinds : All (λ (x : Cargo). kind_of x.0 ≡ row.kind) e.producer.entries
  ring_kinds = subst (λ (k : QueueKind). All (λ (x : Cargo). kind_of x.0 ≡ k) e.producer.entries) of_ring.0 (subst (All (λ (x : Cargo). kind_of x.0 ≡ ring.kind)) (sym sent_is) has.kinds)

  pub ring_ended : IsEndedOf row e
  ring_ended = record {
    kind = ap (λ (h : Half). h.kind) has.producer ∙ (has.producer_kind ∙ of_ring.0);
    capacity = has.capacity ∙ of_ring.1;
    kinds = subst (λ (k : QueueKind). All (λ (x : Cargo). kind_of x.0 ≡ k) e.left) of_ring.0 (subst (All (λ (x : Cargo). kind_of x.0 ≡ ring.kind)) (drop-append_seam c.knows.entries e.left) (All-drop (λ (x : Cargo). kind_of x.0 ≡ ring.kind) (length c.knows.entries) (c.knows.entries ++ e.left) (subst (All (λ (x : Cargo). kind_of x.0 ≡ ring.kind)) has.rest has.kinds)));
    within = let few = has.few in let cap = of_ring.1 in omega (arith, few, cap);
  }

  -- what an owner knew of its end is what the queue has, but for its look
  pub taker_same : SameButLook (end_known (Some c)) (end_of true row.kind (track_of e).bells Consumer)
  taker_same = record { owned = refl; kind = sym (has.consumer_kind ∙ of_ring.0); waiter = ap (λ (b : BellState). b.waiter) has.forward; ringer = ap (λ (b : BellState). b.ringer) has.backward }

  pub putter_same : SameButLook (end_known (Some p)) (end_of true row.kind (track_of e).bells Producer)
  putter_same = record { owned = refl; kind = sym (has.producer_kind ∙ of_ring.0); waiter = ap (λ (b : BellState). b.waiter) has.backward; ringer = ap (λ (b : BellState). b.ringer) has.forward }

-- what is left at a queue of a row
record Left (parts : List Apart) (ended : List EndedIs) (n : ℕ) (row : QueueRow) : Type 0 where
  pub ring : RingIs
  pub of_ring : IsRingOf (hostile_apart parts) row ring
  pub e : EndedIs
  pub there : slice_get ended n ≡ Some e
  pub has : (p c : EndIs) → OwnEnd parts row Producer n p → OwnEnd parts row Consumer n c → HasEnded ring p c e
  pub p : EndIs
  pub own_p : OwnEnd parts row Producer n p
  pub c : EndIs
  pub own_c : OwnEnd parts row Consumer n c

module _ (rows : List QueueRow) (rings : List RingIs) (parts : List Apart) (actors : List Actor) (ended : List EndedIs) (apart : AreApart rows rings parts) (peopled : IsPeopled rows (length parts)) (done : AreFinished rows rings parts actors ended) where
  abbrev hostile : Hostiles
  hostile = hostile_apart parts

  rings_long : length rings ≡ length rows
  rings_long = all_long (IsRingOf hostile) rows rings apart.rings_are

  ended_long : length ended ≡ length rows
  ended_long = done.many ∙ rings_long

  own_end : (r : Role) (n : ℕ) (row : QueueRow) → slice_get rows n ≡ Some row → (e : EndIs) × OwnEnd parts row r n e
  own_end r n row at =
      let p = there_is parts (owner_of row r) (peopled n row at r) in
      let e = (apart.ends (owner_of row r) p.0 p.1).all r n row at refl in
      (e.0, record { owner = p.0; there = p.1; end = e.1 })

  left_at : (n : ℕ) (row : QueueRow) → slice_get rows n ≡ Some row → Left parts ended n row
  left_at n row at =
      let lt = there_below rows n row at in
      let g = there_is rings n (let l = rings_long in omega (arith, lt, l)) in
      let e = there_is ended n (let l = ended_long in omega (arith, lt, l)) in
      let p = own_end Producer n row at in
      let c = own_end Consumer n row at in record {
        ring = g.0;
        of_ring = all_at (IsRingOf hostile) rows rings apart.rings_are n row g.0 at g.1;
        e = e.0;
        there = e.1;
        has = λ x y own_x own_y. done.each n row g.0 e.0 at g.1 e.1 x y own_x own_y;
        p = p.0;
        own_p = p.1;
        c = c.0;
        own_c = c.1;
      }

  abbrev world : List Queue
  world = all_adopted rows ended

  pub queue_is : (n : ℕ) (row : QueueRow) → slice_get rows n ≡ Some row → (e : EndedIs) → slice_get ended n ≡ Some e → queue_at world n ≡ adopted (row, e)
  queue_is n row at e there = get_or_from_slice_get world n (adopted (row, e)) no_queue (map_get adopted (zip rows ended) n (row, e) (zip_get rows ended n row e at there))

  pub track_is : (n : ℕ) (e : EndedIs) → slice_get ended n ≡ Some e → history_at (history_left ended) n ≡ track_of e
  track_is n e there = get_or_from_slice_get (history_left ended) n (track_of e) start_track (map_get track_of ended n e there)

  pub world_long : length world ≡ length rows
  world_long = length-map (zip rows ended) adopted ∙ zip_length rows ended ended_long

  goes_on : (n : ℕ) (row : QueueRow) → slice_get rows n ≡ Some row → GoesOnAt rows parts ended n row
  goes_on n row at =
      let l = left_at n row at in
      let h = l.has l.p l.c l.own_p l.own_c in
      let queue = sym (queue_is n row at l.e l.there) in
      let track = sym (track_is n l.e l.there) in record {
        shown = subst (λ (z : Queue × Track). IsShown row z.0 z.1) (λ i. (queue i, track i)) (ring_shown hostile row l.ring l.p l.c l.e l.of_ring h);
        bells_hold = λ calm. subst (TrackHolds row) track (ring_holds hostile row l.ring l.p l.c l.e l.of_ring h calm);
        flows = subst (Flows row) track (ring_flows hostile row l.ring l.p l.c l.e l.of_ring h);
        tells = λ p c own_p own_c. subst (TellsEnds p.knows c.knows) track (ring_tells hostile row l.ring p c l.e l.of_ring (l.has p c own_p own_c));
      }

  pub same_end : (k : ℕ) (p : Apart) → slice_get parts k ≡ Some p → (r : Role) (n : ℕ) (row : QueueRow) → slice_get rows n ≡ Some row → owner_of row r ≡ k → SameButLook (apart_end p r n) (end_at world r n)
  same_end k p here r n row at owner =
      let l = left_at n row at in
      let e = (apart.ends k p here).all r n row at owner in
      let own : OwnEnd parts row r n e.0 = record { owner = p; there = ap (slice_get parts) owner ∙ here; end = e.1 } in
      let queue = queue_is n row at l.e l.there in
      let mine : nat_lt n (length world) ≡ true = lt-ltb n (length world) (let lt = there_below rows n row at in let long = world_long in omega (arith, lt, long)) in
      let there : end_at world r n ≡ end_of true row.kind (track_of l.e).bells r = ap (λ (b : Bool). end_of b (queue_at world n).kind (queue_at world n).bells r) mine ∙ ap (λ (q : Queue). end_of true q.kind q.bells r) queue in
      let was : apart_end p r n ≡ end_known (Some e.0) = ap end_known e.1 in
      subst (λ (z : End × End). SameButLook z.0 z.1) (λ i. (sym was i, sym there i)) (by r l e.0 own)
    where
      by : (r : Role) (l : Left parts ended n row) (e : EndIs) → OwnEnd parts row r n e → SameButLook (end_known (Some e)) (end_of true row.kind (track_of l.e).bells r)
      by Consumer l e own = taker_same hostile row l.ring l.p e l.e l.of_ring (l.has l.p e l.own_p own)
      by Producer l e own = putter_same hostile row l.ring e l.c l.e l.of_ring (l.has e l.c own l.own_c)

  pub are_left : AreLeft rows parts ended
  are_left = record {
    ended_of = zip_all IsEndedOf rows ended ended_long (λ n row e at there.
        let l = left_at n row at in
        let h = l.has l.p l.c l.own_p l.own_c in
        subst (IsEndedOf row) (some_is (sym l.there ∙ there)) (ring_ended hostile row l.ring l.p l.c l.e l.of_ring h));
    size = world_long;
    each = goes_on;
    kinds = λ n row e at there.
        let l = left_at n row at in
        let h = l.has l.p l.c l.own_p l.own_c in
        subst (λ (z : EndedIs). All (λ (x : Cargo). kind_of x.0 ≡ row.kind) z.producer.entries) (some_is (sym l.there ∙ there)) (ring_kinds hostile row l.ring l.p l.c l.e l.of_ring h);
    fits = λ k p x here forgot fits own. fits_anew (apart_end p) (end_at world) p.actor x forgot (λ r n mine. (let o = own r n mine in same_end k p here r n o.0 o.1 o.2)) fits;
  }

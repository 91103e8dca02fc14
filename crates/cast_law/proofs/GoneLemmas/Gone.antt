-- What actors leave that have gone apart over rings.
use Rattle.std.proofs.Common.{◌≡◌, ◌∙◌, ◌+◌, ◌<◌, ◌≤◌, ◌⊎◌, inl, inr, ◌++◌, ℕ, List, [], length, map, refl, sym, ap, subst, arith, Option, Some, None, slice_get}
use Rattle.std.specs.Option.{option_map_or}
use Rattle.std.proofs.lemmas.List.{length-map}
use Rattle.std.proofs.lemmas.Bool.{cases_lt}
use Rattle.wire_core.specs.declared.names.Event.{Event}
use Rattle.wire_core.specs.declared.names.QueueRow.{QueueRow}
use Rattle.wire_core.specs.Deeds.{Cargo}
use Rattle.wire_core.specs.Ends.{Role, Consumer, Producer, End}
use Rattle.wire_core.specs.Fates.{noes_at}
use Rattle.wire_core.specs.Journal.{owner_of}
use Rattle.wire_core.specs.Lists.{Passed, nothing_passed}
use Rattle.spsc_queue.specs.Known.Ends.{EndIs, RingIs, EndedIs}
use Rattle.seat_wires.specs.Places.Are.{SeatsAre}
use Rattle.seat_wires.specs.Places.{joined_get, entries_known, no_end}
use Rattle.seat_wires.specs.Times.{times_known, times_at, times_or}
use Rattle.play_core.proofs.Lists.{map_get, map_from, there_is}
use Rattle.actor_set.specs.Actors.{FitsActor, ActorStandsFor}
use Rattle.actor_set.specs.declared.actor.Actor.{Actor}
use Rattle.actor_set.proofs.LawsLemmas.Beside.{stands_anew}
use Rattle.actor_set.proofs.LawsLemmas.Starts.{fits_whole}
use Rattle.order_law.specs.Tales.{Goes}
use Rattle.order_law.specs.Orders.{Seated, Turn, HaveRun, InOrder, actors_of, entries_at, listed, looked, noes_known, noes_seen, passed_by}
use Rattle.order_law.proofs.Ordering.{ordered}
use Rattle.cast_law.specs.Runs.Running.{AreReady, HaveHeld}
use Rattle.cast_law.proofs.RunsLemmas.Holding.{have_held}
use Rattle.order_law.specs.ActorParts.Parting.{Apart, ends_at, end_in, apart_end, apart_passed}
use Rattle.order_law.specs.ActorParts.Going.{AreSeatsOf, HasGone}
use Rattle.order_law.specs.ActorParts.Finished.{AreFinished}
use Rattle.order_law.proofs.ActorParts.Standing.{found}
use Rattle.cast_law.specs.Gone.Gone.{HaveGone, HaveLooked, passed_of, left_at, noes_apart, noes_left, actors_apart}
use Rattle.cast_law.proofs.GoneLemmas.Lists.{Pair, pairs, maps_same, none_beyond}
use Rattle.cast_law.proofs.GoneLemmas.Ended.{IsKept, half_of, kept_at, kinds_kept, handed, ended_long}

-- what passed at the seats of an actor apart is what its ends know
seats_entries : (rings : List RingIs) (p : Apart) (s : SeatsAre) → AreSeatsOf rings p s → (r : Role) (n : ℕ) → entries_at s r n ≡ entries_known (end_in (ends_at p r) n)
seats_entries rings p s of Consumer n = ap entries_known (of.same Consumer n)
seats_entries rings p s of Producer n = ap entries_known (of.same Producer n)

seats_noes : (rings : List RingIs) (p : Apart) (s : SeatsAre) → AreSeatsOf rings p s → (r : Role) (n : ℕ) → noes_seen s r n ≡ noes_known (end_in (ends_at p r) n)
seats_noes rings p s of r n = ap noes_known (of.same r n)

times_joined : (x : Option (Option EndIs)) → times_or x ≡ times_known (joined_get x)
times_joined None = refl
times_joined (Some x) = refl

seats_times : (rings : List RingIs) (p : Apart) (s : SeatsAre) → AreSeatsOf rings p s → (r : Role) (n : ℕ) → times_at s r n ≡ times_known (end_in (ends_at p r) n)
seats_times rings p s of Consumer n = times_joined (slice_get s.consumers n) ∙ ap times_known (of.same Consumer n)
seats_times rings p s of Producer n = times_joined (slice_get s.producers n) ∙ ap times_known (of.same Producer n)

module _ (rows : List QueueRow) (rings : List RingIs) (olds news : List Apart) (actors : List Actor) (ended : List EndedIs) (gone : HaveGone rows rings olds news) (done : AreFinished rows rings news actors ended) where
  -- an actor before its calls and after them
  abbrev Way : Type 0
  Way = Pair (HasGone rings)

  abbrev before : Way → Seated
  before w = record { actor = w.one.actor; seats = w.holds.before }

  abbrev after : Way → Seated
  after w = record { actor = w.other.actor; seats = w.holds.after }

  peopled : (n : ℕ) (row : QueueRow) → slice_get rows n ≡ Some row → (r : Role) → owner_of row r < length news
  peopled n row at r = let lt = gone.peopled n row at r in omega (arith, lt, gone.many)

  module _ (ws : List Way) (olds_are : map (λ (w : Way). w.one) ws ≡ olds) (news_are : map (λ (w : Way). w.other) ws ≡ news) where
    abbrev begun : List Seated
    begun = map before ws

    abbrev now : List Seated
    now = map after ws

    ways_long : length ws ≡ length olds
    ways_long = sym (length-map ws (λ (w : Way). w.one)) ∙ ap length olds_are

    begun_long : length begun ≡ length olds
    begun_long = length-map ws before ∙ ways_long

    -- what stands at a place before, and after
    record WasAt (k : ℕ) (x : Seated) : Type 0 where
      pub way : Way
      pub place : slice_get ws k ≡ Some way
      pub same : before way ≡ x
      pub old : slice_get olds k ≡ Some way.one
      pub seats : AreSeatsOf rings way.one x.seats

    was_at : (k : ℕ) (x : Seated) → slice_get begun k ≡ Some x → WasAt k x
    was_at k x at = let w = map_from before ws k x at in record {
      way = w.0;
      place = w.1;
      same = w.2;
      old = ap (λ (l : List Apart). slice_get l k) (sym olds_are) ∙ map_get (λ (w : Way). w.one) ws k w.0 w.1;
      seats = subst (λ (z : Seated). AreSeatsOf rings w.0.one z.seats) w.2 w.0.holds.began;
    }

    record IsAt (k : ℕ) (x : Seated) : Type 0 where
      pub part : Apart
      pub new : slice_get news k ≡ Some part
      pub seats : AreSeatsOf rings part x.seats

    is_at : (k : ℕ) (x : Seated) → slice_get now k ≡ Some x → IsAt k x
    is_at k x at = let w = map_from after ws k x at in record {
      part = w.0.other;
      new = ap (λ (l : List Apart). slice_get l k) (sym news_are) ∙ map_get (λ (w : Way). w.other) ws k w.0 w.1;
      seats = subst (λ (z : Seated). AreSeatsOf rings w.0.other z.seats) w.2 w.0.holds.ended;
    }

    -- what is kept of a ring is what its owner's seats know
    entries_kept : (n : ℕ) (row : QueueRow) (kept : IsKept news ended n row) (r : Role) (x : Seated) → slice_get now (owner_of row r) ≡ Some x → entries_at x.seats r n ≡ (half_of kept.e r).entries
    entries_kept n row kept r x at = let p = is_at (owner_of row r) x at in seats_entries rings p.part x.seats p.seats r n ∙ (kept.known r p.part p.new).0

    times_kept : (n : ℕ) (row : QueueRow) (kept : IsKept news ended n row) (r : Role) (x : Seated) → slice_get now (owner_of row r) ≡ Some x → times_at x.seats r n ≡ (half_of kept.e r).times
    times_kept n row kept r x at = let p = is_at (owner_of row r) x at in seats_times rings p.part x.seats p.seats r n ∙ (kept.known r p.part p.new).1

    run : HaveRun rows begun now
    run = record {
      many = length-map ws after ∙ sym (length-map ws before);
      tales = λ k x at. (
          let w = was_at k x at in
          (after w.way, map_get after ws k w.way w.place, w.way.holds.calls, subst (λ (z : Seated). Goes z.actor z.seats w.way.holds.calls w.way.other.actor w.way.holds.after) w.same w.way.holds.goes)
          );
      own = λ k x at r n e there. (
          let w = was_at k x at in
          let f = found (ends_at w.way.one r) n e (sym (w.seats.same r n) ∙ there) in
          let o = (gone.stood.ends k w.way.one w.old).own r f.0 f.1 f.2 in
          (o.0, ap (λ (m : ℕ). slice_get rows m) (sym f.3) ∙ o.1, o.2)
          );
      anew = λ k x at r n. (
          let w = was_at k x at in
          let none = gone.nothing k w.way.one w.old r n in
          (seats_entries rings w.way.one x.seats w.seats r n ∙ none.0, seats_times rings w.way.one x.seats w.seats r n ∙ none.1)
          );
      peers = λ n row at r. (let lt = gone.peopled n row at r in let long = begun_long in omega (arith, lt, long));
      flows = λ n row at p c at_p at_c. (
          let kept = kept_at rows rings news actors ended gone.stand peopled done n row at in (
            (kept.e.left, ap (λ (l : List Cargo). l ++ kept.e.left) (entries_kept n row kept Consumer c at_c) ∙ (sym kept.rest ∙ sym (entries_kept n row kept Producer p at_p))),
            (kept.later, ap (λ (l : List ℕ). l ++ kept.later) (times_kept n row kept Consumer c at_c) ∙ (sym kept.times ∙ sym (times_kept n row kept Producer p at_p))),
          )
          );
    }

    -- what passed at the seats of all is what the ended rings say
    abbrev told : Role → ℕ → List Cargo
    told r n = option_map_or (λ (e : EndedIs). (half_of e r).entries) (slice_get ended n) []

    told_is : (r : Role) (n : ℕ) → listed rows now r n ≡ told r n
    told_is r n = by (cases_lt n (length rows))
      where
        at_row : Option QueueRow → List Cargo
        at_row o = option_map_or (λ (row : QueueRow). option_map_or (λ (x : Seated). entries_at x.seats r n) (slice_get now (owner_of row r)) []) o []

        of_ring : Option EndedIs → List Cargo
        of_ring o = option_map_or (λ (e : EndedIs). (half_of e r).entries) o []

        by : (n < length rows) ⊎ (length rows ≤ n) → at_row (slice_get rows n) ≡ of_ring (slice_get ended n)
        by (inl lt) =
            let row = there_is rows n lt in
            let kept = kept_at rows rings news actors ended gone.stand peopled done n row.0 row.1 in
            let x = there_is now (owner_of row.0 r) (let less = gone.peopled n row.0 row.1 r in let long = length-map ws after in omega (arith, less, long, ways_long)) in
            ap at_row row.1 ∙ (ap (λ (o : Option Seated). option_map_or (λ (y : Seated). entries_at y.seats r n) o []) x.1 ∙ (entries_kept n row.0 kept r x.0 x.1 ∙ sym (ap of_ring kept.there)))
        by (inr le) = ap at_row (none_beyond rows n le) ∙ sym (ap of_ring (none_beyond ended n (let long = ended_long rows rings news actors ended gone.stand peopled done in omega (arith, le, long))))

    -- and how often their ends looked in vain
    noes_is : (r : Role) (n : ℕ) → noes_left ended r n ≡ option_map_or (λ (e : EndedIs). (half_of e r).noes) (slice_get ended n) 0
    noes_is Consumer n = refl
    noes_is Producer n = refl

    looked_now : (r : Role) (n : ℕ) → looked rows now r n ≡ noes_left ended r n
    looked_now r n = by (cases_lt n (length rows)) ∙ sym (noes_is r n)
      where
        at_row : Option QueueRow → ℕ
        at_row o = option_map_or (λ (row : QueueRow). option_map_or (λ (x : Seated). noes_seen x.seats r n) (slice_get now (owner_of row r)) 0) o 0

        of_ring : Option EndedIs → ℕ
        of_ring o = option_map_or (λ (e : EndedIs). (half_of e r).noes) o 0

        by : (n < length rows) ⊎ (length rows ≤ n) → at_row (slice_get rows n) ≡ of_ring (slice_get ended n)
        by (inl lt) =
            let row = there_is rows n lt in
            let kept = kept_at rows rings news actors ended gone.stand peopled done n row.0 row.1 in
            let x = there_is now (owner_of row.0 r) (let less = gone.peopled n row.0 row.1 r in let long = length-map ws after in omega (arith, less, long, ways_long)) in
            let p = is_at (owner_of row.0 r) x.0 x.1 in
            ap at_row row.1 ∙ (ap (λ (o : Option Seated). option_map_or (λ (y : Seated). noes_seen y.seats r n) o 0) x.1
            ∙ (seats_noes rings p.part x.0.seats p.seats r n ∙ (kept.noes r p.part p.new ∙ sym (ap of_ring kept.there))))
        by (inr le) = ap at_row (none_beyond rows n le) ∙ sym (ap of_ring (none_beyond ended n (let long = ended_long rows rings news actors ended gone.stand peopled done in omega (arith, le, long))))

    looked_then : (r : Role) (n : ℕ) → looked rows begun r n ≡ noes_apart rows olds r n
    looked_then r n = by (slice_get rows n) refl
      where
        at_row : Option QueueRow → ℕ
        at_row o = option_map_or (λ (row : QueueRow). option_map_or (λ (x : Seated). noes_seen x.seats r n) (slice_get begun (owner_of row r)) 0) o 0

        of_part : Option QueueRow → ℕ
        of_part o = option_map_or (λ (row : QueueRow). option_map_or (λ (p : Apart). noes_known (end_in (ends_at p r) n)) (slice_get olds (owner_of row r)) 0) o 0

        by : (o : Option QueueRow) → slice_get rows n ≡ o → at_row (slice_get rows n) ≡ of_part (slice_get rows n)
        by None is = ap at_row is ∙ sym (ap of_part is)
        by (Some row) is =
            let x = there_is begun (owner_of row r) (let less = gone.peopled n row is r in let long = begun_long in omega (arith, less, long)) in
            let w = was_at (owner_of row r) x.0 x.1 in
            ap at_row is ∙ (ap (λ (o : Option Seated). option_map_or (λ (y : Seated). noes_seen y.seats r n) o 0) x.1
            ∙ (seats_noes rings w.way.one x.0.seats w.seats r n
            ∙ (sym (ap (λ (o : Option Apart). option_map_or (λ (p : Apart). noes_known (end_in (ends_at p r) n)) o 0) w.old) ∙ sym (ap of_part is))))

    passed_is : (calls : List Event) → passed_by rows now calls ≡ passed_of ended calls
    passed_is calls = λ i. record { taken = λ n. told_is Consumer n i; sent = λ n. told_is Producer n i; calls = calls }

    begun_are : actors_of begun ≡ actors_apart olds
    begun_are = maps_same before (λ (x : Seated). x.actor) (λ (w : Way). w.one.actor) ws (λ w. refl) ∙ (sym (maps_same (λ (w : Way). w.one) (λ (p : Apart). p.actor) (λ (w : Way). w.one.actor) ws (λ w. refl)) ∙ ap actors_apart olds_are)

    now_are : actors_of now ≡ actors
    now_are = maps_same after (λ (x : Seated). x.actor) (λ (w : Way). w.other.actor) ws (λ w. refl) ∙ (sym (maps_same (λ (w : Way). w.other) (λ (p : Apart). p.actor) (λ (w : Way). w.other.actor) ws (λ w. refl)) ∙ (ap actors_apart news_are ∙ sym done.actors_are))

    in_order : (turns : List Turn) × (calls : List Event) × InOrder (actors_apart olds) nothing_passed turns actors (passed_of ended calls) × HaveLooked rows olds ended calls
    in_order = let o = ordered rows begun now run in (
      o.0,
      o.1,
      subst (λ (z : List Actor × List Actor × Passed). InOrder z.0 nothing_passed o.0 z.1 z.2) (λ i. (begun_are i, now_are i, passed_is o.1 i)) o.2,
      λ r n. sym (looked_now r n) ∙ (o.3 r n ∙ ap (λ (m : ℕ). m + noes_at r n o.1) (looked_then r n)),
    )

  abbrev no_ends : Role → ℕ → End
  no_ends r n = no_end

  ready : AreReady rows (actors_apart olds)
  ready = record {
    pools = gone.pools;
    in_place = gone.in_place;
    split = gone.split;
    ends = λ k. option_map_or apart_end (slice_get olds k) no_ends;
    fits = λ k x at. (
        let p = map_from (λ (q : Apart). q.actor) olds k x at in
        subst (FitsActor (option_map_or apart_end (slice_get olds k) no_ends)) p.2 (subst (λ (o : Option Apart). FitsActor (option_map_or apart_end o no_ends) p.0.actor) (sym p.1) (gone.stood.stand k p.0 p.1).fits)
        );
    stands = λ k x at. (
        let p = map_from (λ (q : Apart). q.actor) olds k x at in
        let stood = gone.stood.stand k p.0 p.1 in
        subst (λ (y : Actor). ActorStandsFor y nothing_passed) p.2 (stands_anew (apart_passed p.0 stood.stands.0) p.0.actor (fits_whole (apart_end p.0) p.0.actor stood.fits)
        (λ n e. (gone.nothing k p.0 p.1 Consumer n).0) (λ n e. (gone.nothing k p.0 p.1 Producer n).0) stood.stands.1)
        );
  }

  pub have_gone : (calls : List Event) × HaveHeld rows (actors_apart olds) actors (passed_of ended calls) × HaveLooked rows olds ended calls
  have_gone =
      let w = pairs (HasGone rings) olds news gone.many gone.gone in
      let o = in_order w.0 w.1 w.2 in
      (o.1, have_held rows (actors_apart olds) actors o.0 (passed_of ended o.1) ready o.2 (kinds_kept rows rings news actors ended gone.stand peopled done o.1), o.3)

  pub hand_over : (calls : List Event) (n : ℕ) → (passed_of ended calls).sent n ≡ (passed_of ended calls).taken n ++ left_at ended n
  hand_over = handed rows rings news actors ended gone.stand peopled done

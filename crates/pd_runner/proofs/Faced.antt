-- Actors apart that were seated, went and have the numbers of their ends again.
use Rattle.std.proofs.Common.{Option, None, ◌≡◌, ◌∙◌, ◌≤◌, ◌⊎◌, inl, inr, ⊎_elim, ℕ, zero, suc, List, [], ◌∷◌, length, map, refl, sym, ap, subst, arith, Some, slice_get}
use Rattle.std.proofs.lemmas.Slice.Zip.{AllZip-long}
use Rattle.play_core.proofs.Lists.{some_is, map_get, map_from}
use Rattle.wire_core.specs.declared.names.QueueRow.{QueueRow}
use Rattle.wire_core.specs.Ends.{Role, Consumer, Producer, End}
use Rattle.wire_core.specs.Lists.{Passed}
use Rattle.spsc_queue.specs.Known.Ends.{EndIs, RingIs}
use Rattle.seat_wires.specs.Places.Are.{SeatsAre}
use Rattle.seat_wires.specs.Places.{EndsOn, ends_of, stands_at}
use Rattle.play_core.specs.Manners.{is_hostile}
use Rattle.actor_set.specs.Actors.{FitsActor, ActorStandsFor, actor_rests, part_of}
use Rattle.actor_set.specs.Laws.Kinds.{hostiles, manner_of}
use Rattle.actor_set.specs.Parts.{Part as PartIs}
use Rattle.actor_set.specs.declared.actor.Actor.{Actor}
use Rattle.order_law.specs.declared.actor_parts.worker.Worker.{Worker}
use Rattle.order_law.specs.ActorParts.Given.{Kept, apart_of}
use Rattle.order_law.specs.ActorParts.Going.{AreSeatsOf}
use Rattle.order_law.specs.ActorParts.Numbered.{numbered}
use Rattle.order_law.specs.ActorParts.Placing.{placed}
use Rattle.order_law.specs.ActorParts.Parting.{Apart, ends_at, end_in, StandsApart, HasItsEnds, AreApart, IsRingOf, hostile_apart}
use Rattle.wire_core.specs.Journal.{Hostiles}
use Rattle.wire_core.specs.declared.names.QueueId.{QueueId}
use Rattle.std.specs.List.{AllZip}
use Rattle.pd_runner.specs.declared.part.Part.{Part}
use Rattle.pd_runner.specs.Each.{Each, Every, AnyPair}
use Rattle.pd_runner.specs.Ends.{LawfulOf, SpentOf, Rests}
use Rattle.pd_runner.specs.Facing.{CameApart, CameWithin, HasSpent, IsResting}
use Rattle.pd_runner.specs.Running.{Comes, part_seats}
use Rattle.pd_runner.specs.Seated.{IsApart, IsSeated, HasNumbers, IsNumbered}
use Rattle.pd_runner.proofs.Eaches.{each_then, every_of}
use Rattle.pd_runner.proofs.Seated.{stands_there}
use Rattle.pd_runner.proofs.Stepping.{comes_none}
use Rattle.pd_runner.proofs.Facing.{WasThere, was_there, ends_same, passed_same, seats_numbered, numbered_once, numbered_on, own_ends}

module _ (rings : List RingIs) (limit : ℕ) (k : Kept) (p q : Part) (l : Kept) (seated : IsSeated rings k p) (lawful : LawfulOf rings limit p q) (is : IsNumbered q l) where
  numbers : (r : Role) → ends_at (apart_of l) r ≡ numbered 0 (ends_of (part_seats rings q) r)
  numbers Consumer = is.consumers
  numbers Producer = is.producers

  ends_on : (r : Role) → EndsOn rings (ends_of (part_seats rings q) r)
  ends_on Consumer = lawful.came.stands.consumers
  ends_on Producer = lawful.came.stands.producers

  after_is : AreSeatsOf rings (apart_of l) (part_seats rings q)
  after_is = seats_numbered rings (apart_of l) (part_seats rings q) refl numbers

  came_with : (n : ℕ) → Comes p.worker.actor (part_seats rings p) n q.worker.actor (part_seats rings q) → CameApart rings n (apart_of k) (apart_of l)
  came_with n comes = record {
    before = part_seats rings p;
    after = part_seats rings q;
    began = seated.seats;
    ended = after_is;
    comes = subst (λ (z : Actor × Actor). Comes z.0 (part_seats rings p) n z.1 (part_seats rings q)) (λ i. ((seated.worker i).actor, (sym is.worker i).actor)) comes;
  }

  pub came_within : CameWithin rings limit (apart_of k) (apart_of l)
  came_within = (lawful.steps, lawful.within, came_with lawful.steps lawful.came.comes)

  pub has_spent : SpentOf rings limit p q → HasSpent rings limit (apart_of k) (apart_of l)
  has_spent spent = (spent.steps, spent.reached, came_with spent.steps spent.came.comes)

  same_part : part_of l.0.actor ≡ part_of k.0.actor
  same_part = ap (λ (w : Worker). part_of w.actor) is.worker ∙ (lawful.came.comes.same ∙ ap (λ (w : Worker). part_of w.actor) seated.worker)

  was : (r : Role) (i : ℕ) (x : QueueId × EndIs) → slice_get (ends_at (apart_of l) r) i ≡ Some x → WasThere (apart_of k) r x
  was r i x at = was_there rings lawful.steps (apart_of k) (apart_of l) (part_seats rings p) (part_seats rings q) seated.seats numbers lawful.came.comes.went r i x at

  pub still_apart : IsApart rings k → IsApart rings l
  still_apart apart = record {
    once = numbered_once (apart_of l) (part_seats rings q) numbers;
    on = numbered_on (apart_of l) (part_seats rings q) numbers ends_on;
    sorts = λ r i x at ring there. let w = was r i x at in w.sort ∙ apart.sorts r w.place w.old w.there ring (ap (slice_get rings) w.queue ∙ there);
    wild = λ hostile r i x at. let w = was r i x at in w.sort ∙ apart.wild (ap (λ (part : PartIs). is_hostile (manner_of part)) (sym same_part) ∙ hostile) r w.place w.old w.there;
    fits = subst (λ (z : (Role → ℕ → End) × Actor). FitsActor z.0 z.1) (λ i. (ends_same rings (apart_of l) (part_seats rings q) after_is i, (sym is.worker i).actor)) lawful.came.stands.sits.fits;
    stands = (lawful.came.stands.sits.lists.0, subst (λ (z : Actor × Passed). ActorStandsFor z.0 z.1) (λ i. ((sym is.worker i).actor, passed_same rings (apart_of l) (part_seats rings q) after_is lawful.came.stands.sits.lists.0 i)) lawful.came.stands.sits.lists.1);
    fine = ap (λ (w : Worker). w.wanted) is.worker ∙ lawful.fine;
  }

  pub still_own : (rows : List QueueRow) (n : ℕ) → HasItsEnds rows n (apart_of k) → HasItsEnds rows n (apart_of l)
  still_own rows n has = own_ends rows n lawful.steps rings (apart_of k) (apart_of l) (part_seats rings p) (part_seats rings q) seated.seats after_is lawful.came.comes.went has

pub has_numbers : (rings : List RingIs) (limit : ℕ) (p q : Part) → LawfulOf rings limit p q → HasNumbers q
has_numbers rings limit p q lawful = record { producers = lawful.came.stands.few_producers; consumers = lawful.came.stands.few_consumers }

-- what stands at one place of two lists side by side
module _ {X Y : Type 0} (R : X → Y → Type 0) where
  each_at : (xs : List X) (ys : List Y) → Each R xs ys → (n : ℕ) (x : X) (y : Y) → slice_get xs n ≡ Some x → slice_get ys n ≡ Some y → R x y
  each_at [] [] h n x y at there = cc
  each_at [] (b ∷ ys) h n x y at there = absurd h
  each_at (a ∷ xs) [] h n x y at there = absurd h
  each_at (a ∷ xs) (b ∷ ys) h zero x y at there = subst (λ (z : X × Y). R z.0 z.1) (λ i. (some_is at i, some_is there i)) h.0
  each_at (a ∷ xs) (b ∷ ys) h (suc n) x y at there = each_at xs ys h.1 n x y at there

  each_left : (xs : List X) (ys : List Y) → Each R xs ys → (n : ℕ) (y : Y) → slice_get ys n ≡ Some y → (x : X) × (slice_get xs n ≡ Some x)
  each_left [] [] h n y there = cc
  each_left [] (b ∷ ys) h n y there = absurd h
  each_left (a ∷ xs) [] h n y there = absurd h
  each_left (a ∷ xs) (b ∷ ys) h zero y there = (a, refl)
  each_left (a ∷ xs) (b ∷ ys) h (suc n) y there = each_left xs ys h.1 n y there

  each_long : (xs : List X) (ys : List Y) → Each R xs ys → length ys ≡ length xs
  each_long [] [] h = refl
  each_long [] (b ∷ ys) h = absurd h
  each_long (a ∷ xs) [] h = absurd h
  each_long (a ∷ xs) (b ∷ ys) h = ap suc (each_long xs ys h.1)

-- the parts are apart, and there are no more rings than numbers
pub all_apart : (rows : List QueueRow) (rings : List RingIs) (parts : List Kept) → AreApart rows rings (map apart_of parts) → Every (IsApart rings) parts
all_apart rows rings parts apart = every_of (IsApart rings) parts (λ n k at. apart.stand n (apart_of k) (map_get apart_of parts n k at))

pub few_rings : (rows : List QueueRow) (rings : List RingIs) (parts : List Apart) → AreApart rows rings parts → length rows ≤ 65536 → length rings ≤ 65536
few_rings rows rings parts apart few = let e = AllZip-long (IsRingOf (hostile_apart parts)) rows rings apart.rings_are in omega (arith, e, few)

-- no step of theirs wanted memory
pub no_wants : (rows : List QueueRow) (rings : List RingIs) (parts : List Apart) → AreApart rows rings parts → (k : ℕ) (p : Apart) → slice_get parts k ≡ Some p → p.wanted ≡ None
no_wants rows rings parts apart k p at = (apart.stand k p at).fine

-- where no step is made each came to be what it was
abbrev nones : ℕ → List (Option EndIs)
nones zero = []
nones (suc n) = None ∷ nones n

nones_long : (n : ℕ) → length (nones n) ≡ n
nones_long zero = refl
nones_long (suc n) = ap suc (nones_long n)

nones_none : (n k : ℕ) → stands_at (nones n) k ≡ None
nones_none zero k = refl
nones_none (suc n) zero = refl
nones_none (suc n) (suc k) = nones_none n k

module _ (rings : List RingIs) (limit : ℕ) (k : Kept) (apart : IsApart rings k) where
  abbrev places : Role → List (Option EndIs)
  places r = placed (ends_at (apart_of k) r) (nones (length rings))

  abbrev sitting : SeatsAre
  sitting = record { rings = rings; producers = places Producer; consumers = places Consumer }

  sat_at : (r : Role) (n : ℕ) → stands_at (ends_of sitting r) n ≡ end_in (ends_at (apart_of k) r) n
  sat_at Consumer n = stands_there rings k apart Consumer (places Consumer) (nones (length rings), nones_none (length rings), nones_long (length rings), refl) n
  sat_at Producer n = stands_there rings k apart Producer (places Producer) (nones (length rings), nones_none (length rings), nones_long (length rings), refl) n

  sat : AreSeatsOf rings (apart_of k) sitting
  sat = record { rings_are = refl; same = sat_at }

  stayed : CameApart rings 0 (apart_of k) (apart_of k)
  stayed = record {
    before = sitting;
    after = sitting;
    began = sat;
    ended = sat;
    comes = comes_none k.0.actor sitting record {
      fits = subst (λ (z : Role → ℕ → End). FitsActor z k.0.actor) (sym (ends_same rings (apart_of k) sitting sat)) apart.fits;
      lists = (apart.stands.0, subst (ActorStandsFor k.0.actor) (sym (passed_same rings (apart_of k) sitting sat apart.stands.0)) apart.stands.1);
    };
  }

  stayed_within : CameWithin rings limit (apart_of k) (apart_of k)
  stayed_within = (0, omega arith, stayed)

pub all_stayed : (rows : List QueueRow) (rings : List RingIs) (limit : ℕ) (parts : List Kept) → AreApart rows rings (map apart_of parts)
    → (k : ℕ) (old new : Apart) → slice_get (map apart_of parts) k ≡ Some old → slice_get (map apart_of parts) k ≡ Some new → CameWithin rings limit old new
all_stayed rows rings limit parts apart k old new at there =
    let x = map_from apart_of parts k old at in
    subst (λ (z : Apart × Apart). CameWithin rings limit z.0 z.1) (λ i. (x.2 i, (x.2 ∙ some_is (sym at ∙ there)) i)) (stayed_within rings limit x.0 (apart.stand k (apart_of x.0) (map_get apart_of parts k x.0 x.1)))

-- what came of one that was handed in
pub record IsFrom (rings : List RingIs) (limit : ℕ) (k l : Kept) : Type 0 where
  pub seated : Part
  pub gone : Part
  pub began : IsSeated rings k seated
  pub lawful : LawfulOf rings limit seated gone
  pub ended : IsNumbered gone l

-- where all rest they do with the numbers of their ends
all_rest : (gone : List Part) (news : List Kept) → Each IsNumbered gone news → Every Rests gone → (k : ℕ) (l : Kept) → slice_get news k ≡ Some l → IsResting (apart_of l)
all_rest [] [] ended rest k l at = cc
all_rest [] (b ∷ news) ended rest k l at = absurd ended
all_rest (a ∷ gone) [] ended rest k l at = absurd ended
all_rest (a ∷ gone) (b ∷ news) ended rest zero l at = subst (λ (z : Kept). IsResting (apart_of z)) (some_is at) (ap (λ (w : Worker). actor_rests w.actor) ended.0.worker ∙ rest.0)
all_rest (a ∷ gone) (b ∷ news) ended rest (suc k) l at = all_rest gone news ended.1 rest.1 k l at

-- one of them spent its steps
abbrev OneSpent : List RingIs → ℕ → List Kept → List Kept → Type 0
OneSpent rings limit olds news = (k : ℕ) × (old : Kept) × (new : Kept) × (slice_get olds k ≡ Some old) × (slice_get news k ≡ Some new) × HasSpent rings limit (apart_of old) (apart_of new)

one_spent : (rings : List RingIs) (limit : ℕ) (olds : List Kept) (seated gone : List Part) (news : List Kept) → Each (IsSeated rings) olds seated → Each (LawfulOf rings limit) seated gone → Each IsNumbered gone news → AnyPair (SpentOf rings limit) seated gone → OneSpent rings limit olds news
one_spent rings limit olds [] gone news began lawful ended any = absurd any
one_spent rings limit olds (p ∷ seated) [] news began lawful ended any = absurd any
one_spent rings limit [] (p ∷ seated) (q ∷ gone) news began lawful ended any = absurd began
one_spent rings limit (k ∷ olds) (p ∷ seated) (q ∷ gone) [] began lawful ended any = absurd ended
one_spent rings limit (k ∷ olds) (p ∷ seated) (q ∷ gone) (l ∷ news) began lawful ended any = ⊎_elim
    (λ spent. (0, k, l, refl, refl, has_spent rings limit k p q l began.0 lawful.0 ended.0 spent))
    (λ later. let h = one_spent rings limit olds seated gone news began.1 lawful.1 ended.1 later in (suc h.0, h.1, h.2, h.3, h.4, h.5))
    any

-- the rings stayed, each actor was seated, went and has its ends' numbers again
module _ (rings shared : List RingIs) (same : shared ≡ rings) (limit : ℕ) (olds : List Kept) (seated gone : List Part) (news : List Kept) (were : Each (IsSeated shared) olds seated) (went : Each (LawfulOf shared limit) seated gone) (ended : Each IsNumbered gone news) where
  began : Each (IsSeated rings) olds seated
  began = subst (λ (z : List RingIs). Each (IsSeated z) olds seated) same were

  lawful : Each (LawfulOf rings limit) seated gone
  lawful = subst (λ (z : List RingIs). Each (LawfulOf z limit) seated gone) same went

  all_from : Each (IsFrom rings limit) olds news
  all_from = each_then (λ k q. (p : Part) × IsSeated rings k p × LawfulOf rings limit p q) IsNumbered (IsFrom rings limit)
      (λ k q l h n. record { seated = h.0; gone = q; began = h.1; lawful = h.2; ended = n }) olds gone news
      (each_then (IsSeated rings) (LawfulOf rings limit) (λ k q. (p : Part) × IsSeated rings k p × LawfulOf rings limit p q) (λ k p q s h. (p, s, h)) olds seated gone began lawful)
      ended

  pub as_many : length news ≡ length olds
  as_many = each_long (IsFrom rings limit) olds news all_from

  pub all_came : (k : ℕ) (old new : Apart) → slice_get (map apart_of olds) k ≡ Some old → slice_get (map apart_of news) k ≡ Some new → CameWithin rings limit old new
  all_came k old new at there =
      let x = map_from apart_of olds k old at in let y = map_from apart_of news k new there in
      let h = each_at (IsFrom rings limit) olds news all_from k x.0 y.0 x.1 y.1 in
      subst (λ (z : Apart × Apart). CameWithin rings limit z.0 z.1) (λ i. (x.2 i, y.2 i)) (came_within rings limit x.0 h.seated h.gone y.0 h.began h.lawful h.ended)

  same_hosts : hostile_apart (map apart_of news) ≡ hostile_apart (map apart_of olds)
  same_hosts = ap hostiles (same_parts olds news all_from)
    where
      same_parts : (olds news : List Kept) → Each (IsFrom rings limit) olds news → map (λ (p : Apart). part_of p.actor) (map apart_of news) ≡ map (λ (p : Apart). part_of p.actor) (map apart_of olds)
      same_parts [] [] h = refl
      same_parts [] (l ∷ news) h = absurd h
      same_parts (k ∷ olds) [] h = absurd h
      same_parts (k ∷ olds) (l ∷ news) h = ap (λ (p : PartIs). p ∷ map (λ (p : Apart). part_of p.actor) (map apart_of news)) (same_part rings limit k h.0.seated h.0.gone l h.0.began h.0.lawful h.0.ended) ∙ ap (λ (ps : List PartIs). part_of k.0.actor ∷ ps) (same_parts olds news h.1)

  pub still_all : (rows : List QueueRow) → AreApart rows rings (map apart_of olds) → AreApart rows rings (map apart_of news)
  still_all rows apart = record {
    rings_are = subst (λ (h : Hostiles). AllZip (IsRingOf h) rows rings) (sym same_hosts) apart.rings_are;
    ends = λ k new at. (
        let y = map_from apart_of news k new at in let x = each_left (IsFrom rings limit) olds news all_from k y.0 y.1 in
        let h = each_at (IsFrom rings limit) olds news all_from k x.0 y.0 x.1 y.1 in
        subst (HasItsEnds rows k) y.2 (still_own rings limit x.0 h.seated h.gone y.0 h.began h.lawful h.ended rows k (apart.ends k (apart_of x.0) (map_get apart_of olds k x.0 x.1)))
        );
    stand = λ k new at. (
        let y = map_from apart_of news k new at in let x = each_left (IsFrom rings limit) olds news all_from k y.0 y.1 in
        let h = each_at (IsFrom rings limit) olds news all_from k x.0 y.0 x.1 y.1 in
        subst (StandsApart rings) y.2 (still_apart rings limit x.0 h.seated h.gone y.0 h.began h.lawful h.ended (apart.stand k (apart_of x.0) (map_get apart_of olds k x.0 x.1)))
        );
  }

  pub all_end : Every Rests gone ⊎ AnyPair (SpentOf shared limit) seated gone
      → ((k : ℕ) (new : Apart) → slice_get (map apart_of news) k ≡ Some new → IsResting new) ⊎ ((k : ℕ) × (old : Apart) × (new : Apart) × (slice_get (map apart_of olds) k ≡ Some old) × (slice_get (map apart_of news) k ≡ Some new) × HasSpent rings limit old new)
  all_end = ⊎_elim
      (λ rest. inl (λ k new at. let y = map_from apart_of news k new at in subst IsResting y.2 (all_rest gone news ended rest k y.0 y.1)))
      (λ spent. let h = one_spent rings limit olds seated gone news began lawful ended (subst (λ (z : List RingIs). AnyPair (SpentOf z limit) seated gone) same spent) in inr (h.0, apart_of h.1, apart_of h.2, map_get apart_of olds h.0 h.1 h.3, map_get apart_of news h.0 h.2 h.4, h.5))

-- A system that takes over what actors left goes on from it.
use Rattle.std.proofs.Common.{◌≡◌, ◌⊎◌, ◌<◌, ◌≤◌, ◌+◌, ◌++◌, ◌&&◌, ℕ, zero, suc, Bool, true, false, not, Option, Some, None, List, [], ◌∷◌, All, inl, inr, length, map, slice_get, refl, sym, ap, ◌∙◌, subst, arith}
use Rattle.std.specs.List.{AllZip}
use Rattle.std.specs.Option.{option_map_or}
use Rattle.std.proofs.lemmas.List.{length-map}
use Rattle.std.proofs.lemmas.Option.{get_or_from_slice_get}
use Rattle.cargo_core.specs.Items.{kind_of}
use Rattle.cargo_core.specs.declared.item.QueueKind.{QueueKind}
use Rattle.wire_core.specs.declared.names.Event.{Event}
use Rattle.wire_core.specs.declared.names.PoolRow.{PoolRow}
use Rattle.wire_core.specs.declared.names.QueueId.{QueueId}
use Rattle.wire_core.specs.declared.names.QueueRow.{QueueRow}
use Rattle.wire_core.specs.Deeds.{Cargo}
use Rattle.wire_core.specs.Ends.{Role, Consumer, Producer, End}
use Rattle.wire_core.specs.Fates.{noes_at}
use Rattle.wire_core.specs.Journal.{History, Hostiles, history_at, is_calm, owner_of}
use Rattle.wire_core.specs.Lists.{Passed}
use Rattle.wire_core.specs.Queues.{Queue, queue_at, end_at, items_of}
use Rattle.wire_core.specs.Sizes.{AreSized}
use Rattle.spsc_queue.specs.declared.view.Half.{Half}
use Rattle.spsc_queue.specs.Known.Ends.{EndIs, RingIs, EndedIs}
use Rattle.seat_wires.specs.Places.{no_end}
use Rattle.turn_kit.specs.Pace.{pendings}
use Rattle.turn_kit.proofs.Pacing.{paced_anew}
use Rattle.play_core.specs.Manners.{Manner, Calm}
use Rattle.play_core.specs.Moved.{moved, noes_of}
use Rattle.play_core.specs.Names.{AreNoted, Noted, carries_pages, is_wild, names_at, names_of, told_by, wild_in}
use Rattle.play_core.specs.Sheets.{Scene}
use Rattle.play_core.specs.Still.{IsPeopled}
use Rattle.play_core.specs.Wants.{all_settled}
use Rattle.play_core.proofs.Lists.{some_is, map_get, map_from, there_is, there_below}
use Rattle.play_core.specs.Rests.Showing.{HaveItems, HaveBells}
use Rattle.net_quiet.specs.TxCast.Casting.{CalmSend}
use Rattle.blk_law.specs.Sheets.Parts.{BlkClient}
use Rattle.client_programs.specs.declared.rogue.Rogue.{Rogue}
use Rattle.client_programs.specs.Rogue.Clients.{left_at_start, left_of}
use Rattle.actor_set.specs.Parts.{BlockPart, Part}
use Rattle.actor_set.specs.Actors.{FitsActor, ActorStandsFor, ActorEnd, Forgot, part_anew, part_of, actor_round, actor_rests}
use Rattle.actor_set.specs.declared.actor.Actor.{Actor}
use Rattle.actor_set.specs.declared.actor.Actor.TheVariants as Kinds
use Rattle.actor_set.specs.Laws.Kinds.{AllCalm, hostiles, manner_of, scene_of}
use Rattle.actor_set.specs.Laws.Scenes.{ToldInTurn, told_sheet}
use Rattle.actor_set.proofs.LawsLemmas.Beside.{fits_beside}
use Rattle.actor_set.proofs.LawsLemmas.Calm.{calm_actor}
use Rattle.actor_set.proofs.LawsLemmas.PartEnds.{to_part, end_seat}
use Rattle.actor_set.proofs.LawsLemmas.Rounds.{anew_is, calm_or_rogue}
use Rattle.actor_set.proofs.LawsLemmas.Starts.{fits_whole}
use Rattle.actor_set.proofs.RogueLemmas.Playing.{begins}
use Rattle.wired_law.specs.Wiring.{AreAtWork, AreOfKind, ClientsSend, HasWholeIn, IsWiredIn}
use Rattle.cast_law.specs.Pools.Beside.{CarryBeside, RoguesAsk, is_rogues}
use Rattle.cast_law.specs.Pools.Places.{PoolPlace, IsInPlace, IsPlaced, cast_naming}
use Rattle.cast_law.specs.Restarting.{AreAlike, disarmed}
use Rattle.cast_law.proofs.Restarted.{as_many, calm_there as same_there, hosts_alike, in_place_alike, placed_alike, scene_alike, whole_alike, wired_alike}
use Rattle.cast_law.proofs.TurnsLemmas.{noted_tell, told_turns}
use Rattle.plain_wires.specs.Adopted.{IsEndedOf, all_adopted}
use Rattle.order_law.specs.Orders.{noes_known}
use Rattle.order_law.specs.ActorParts.Opened.{AreAsOpened}
use Rattle.order_law.specs.ActorParts.Opening.{IsForgotten, first_half}
use Rattle.order_law.specs.ActorParts.Parting.{Apart, AreApart, IsRingOf, apart_end, end_in, ends_at, hostile_apart}
use Rattle.order_law.proofs.ActorParts.Standing.{found}
use Rattle.order_law.specs.ActorParts.Finished.{AreFinished, OwnEnd}
use Rattle.order_law.specs.Ended.Tracks.{track_of, TellsEnds}
use Rattle.order_law.specs.Ended.Leaving.{history_left, AreLeft}
use Rattle.order_law.proofs.EndedLemmas.Lists.{all_at, all_long}
use Rattle.order_law.proofs.EndedLemmas.Leaving.{are_left, same_end}
use Rattle.order_law.proofs.EndedLemmas.Resting.{rests_left}
use Rattle.order_law.proofs.EndedLemmas.Rounds.{fits_round}
use Rattle.cast_law.specs.Runs.Running.{HaveHeld}
use Rattle.cast_law.specs.Gone.Gone.{HaveGone, HaveLooked, passed_of, left_at, noes_apart, noes_left, actors_apart}
use Rattle.cast_law.proofs.GoneLemmas.Gone.{have_gone as went_on, hand_over}
use Rattle.sdf_plan.specs.declared.plan.Plan.{Plan}
use Rattle.sdf_check.specs.Valid.{Valid}
use Rattle.trace_text.specs.declared.trace.Trace.{Trace}
use Rattle.region_layout.specs.Rows.{queues_of, pools_of}
use Rattle.layout_laws.proofs.SeatsLemmas.Counts.{few_numbers}
use Rattle.system_core.specs.Builds.{IsCastOf}
use Rattle.system_core.specs.Crews.{net_crew, serial_crew, blk_crew}
use Rattle.system_core.specs.Shows.{Setting, Shown, Crew}
use Rattle.system_core.specs.States.{begun, begun_on, history_of, is_noted, names_left, started_on}
use Rattle.system_core.specs.Lawful.{IsFitted}
use Rattle.system_core.specs.Systems.{Holds, HoldsBefore, GoesOn}
use Rattle.system_core.specs.Adopting.{HaveComeFrom, IsAdopted, rests_by, rests_first}
use Rattle.system_core.proofs.Fitting.{are_sized, fitted_place}
use Rattle.system_core.proofs.Hosts.{calm_there}
use Rattle.system_core.proofs.Marking.{told_anew}
use Rattle.system_core.proofs.Owned.{past_owners}
use Rattle.system_core.proofs.PastNames.{none_left, told_left}

taken_shown : (ended : List EndedIs) (n : ℕ) → items_of ((passed_of ended []).taken n) ≡ (history_at (history_left ended) n).taken
taken_shown [] n = refl
taken_shown (e ∷ ended) zero = refl
taken_shown (e ∷ ended) (suc n) = taken_shown ended n

sent_shown : (ended : List EndedIs) (n : ℕ) → items_of ((passed_of ended []).sent n) ≡ (history_at (history_left ended) n).sent
sent_shown [] n = refl
sent_shown (e ∷ ended) zero = refl
sent_shown (e ∷ ended) (suc n) = sent_shown ended n

-- how often the ends of ended rings looked in vain is what their history tells
noes_shown : (ended : List EndedIs) (r : Role) (n : ℕ) → noes_left ended r n ≡ noes_of r (history_at (history_left ended) n)
noes_shown [] Consumer n = refl
noes_shown [] Producer n = refl
noes_shown (e ∷ ended) Consumer zero = refl
noes_shown (e ∷ ended) Producer zero = refl
noes_shown (e ∷ ended) Consumer (suc n) = noes_shown ended Consumer n
noes_shown (e ∷ ended) Producer (suc n) = noes_shown ended Producer n

-- the end of a new ring never looked
none_opened : (parts : List Apart) (rows : List QueueRow) → AreAsOpened rows parts → (r : Role) (n : ℕ) → noes_apart rows parts r n ≡ 0
none_opened parts rows opened r n = by (slice_get rows n)
  where
    first : (x : Role) (kind : QueueKind) (wild : Bool) → (first_half x kind wild).noes ≡ 0
    first Consumer kind wild = refl
    first Producer kind wild = refl

    at_end : (p : Apart) → ((i : ℕ) (x : QueueId × EndIs) → slice_get (ends_at p r) i ≡ Some x → x.1.knows.noes ≡ 0) → (o : Option EndIs) → end_in (ends_at p r) n ≡ o → noes_known o ≡ 0
    at_end p none None is = refl
    at_end p none (Some e) is = let f = found (ends_at p r) n e is in ap (λ (z : EndIs). z.knows.noes) (sym f.4) ∙ none f.0 f.1 f.2

    of_part : (k : ℕ) (o : Option Apart) → slice_get parts k ≡ o → option_map_or (λ (p : Apart). noes_known (end_in (ends_at p r) n)) o 0 ≡ 0
    of_part k None is = refl
    of_part k (Some p) is = at_end p (λ i x at. let y = opened k p is r i x at in ap (λ (h : Half). h.noes) y.2 ∙ first r y.0.kind _) (end_in (ends_at p r) n) refl

    by : (o : Option QueueRow) → option_map_or (λ (row : QueueRow). option_map_or (λ (p : Apart). noes_known (end_in (ends_at p r) n)) (slice_get parts (owner_of row r)) 0) o 0 ≡ 0
    by None = refl
    by (Some row) = of_part (owner_of row r) (slice_get parts (owner_of row r)) refl

-- the entries that stand in the queues are those that are left
entries_left : (rows : List QueueRow) (ended : List EndedIs) (n : ℕ) → length ended ≡ length rows → (queue_at (all_adopted rows ended) n).entries ≡ left_at ended n
entries_left [] [] n same = refl
entries_left [] (e ∷ ended) n same = absurd (omega (arith, same))
entries_left (row ∷ rows) [] n same = absurd (omega (arith, same))
entries_left (row ∷ rows) (e ∷ ended) zero same = refl
entries_left (row ∷ rows) (e ∷ ended) (suc n) same = entries_left rows ended n (omega (arith, same))

-- where there is a ring for each row, its history is what the rings show
pub history_is : (rows : List QueueRow) (ended : List EndedIs) → length ended ≡ length rows → history_of rows ended ≡ history_left ended
history_is [] [] same = refl
history_is (row ∷ rows) [] same = absurd (omega (arith, same))
history_is rows (e ∷ ended) same = refl

all_of : {X : Type 0} (P : X → Type 0) (xs : List X) (k : ℕ) (x : X) → All P xs → slice_get xs k ≡ Some x → P x
all_of P xs k x all at = subst P (get_or_from_slice_get xs k x x at) (all k x (there_below xs k x at))

-- an actor that forgot its looks is made of the same, whatever a hostile client has yet to do
anew_disarmed : (x : Actor) → disarmed (part_anew x) ≡ disarmed (part_of x)
anew_disarmed x = by (calm_or_rogue x)
  where
    by : (manner_of (part_of x) ≡ Calm) ⊎ ((r : Rogue) × (x ≡ Kinds.Rogue r)) → disarmed (part_anew x) ≡ disarmed (part_of x)
    by (inl calm) = ap disarmed (anew_is x calm)
    by (inr r) = subst (λ (y : Actor). disarmed (part_anew y) ≡ disarmed (part_of y)) (sym r.1) refl

all_disarmed : (actors : List Actor) → map disarmed (map part_anew actors) ≡ map disarmed (map part_of actors)
all_disarmed [] = refl
all_disarmed (x ∷ xs) = λ i. anew_disarmed x i ∷ all_disarmed xs i

parts_forgot : (actors nows : List Actor) → AllZip IsForgotten actors nows → map part_of nows ≡ map part_anew actors
parts_forgot [] [] all = refl
parts_forgot [] (y ∷ ys) all = absurd all
parts_forgot (x ∷ xs) [] all = absurd all
parts_forgot (x ∷ xs) (y ∷ ys) all = λ i. all.0.part i ∷ parts_forgot xs ys all.1 i

calm_anew : (actors : List Actor) → AllCalm (map part_of actors) → map part_anew actors ≡ map part_of actors
calm_anew [] calm = refl
calm_anew (x ∷ xs) calm = λ i. anew_is x (calm 0 (part_of x) refl) i ∷ calm_anew xs (λ k p at. calm (suc k) p at) i

pub apart_disarmed : (parts : List Apart) → map disarmed (map (λ (p : Apart). part_anew p.actor) parts) ≡ map disarmed (map (λ (p : Apart). part_of p.actor) parts)
apart_disarmed [] = refl
apart_disarmed (p ∷ ps) = λ i. anew_disarmed p.actor i ∷ apart_disarmed ps i

-- a hostile client that forgot its look begins its act anew
forgot_rogue : (x : Actor) (r : Rogue) → Forgot x (Kinds.Rogue r) → left_at_start r ≡ left_of r
forgot_rogue (Kinds.Rogue x) r h = h.start
forgot_rogue (Kinds.UartDevice x) r h = absurd h
forgot_rogue (Kinds.UartDriver x) r h = absurd h
forgot_rogue (Kinds.SerialVirtRx x) r h = absurd h
forgot_rogue (Kinds.SerialVirtTx x) r h = absurd h
forgot_rogue (Kinds.SerialClient x) r h = absurd h
forgot_rogue (Kinds.EthDevice x) r h = absurd h
forgot_rogue (Kinds.EthDriver x) r h = absurd h
forgot_rogue (Kinds.NetVirtRx x) r h = absurd h
forgot_rogue (Kinds.NetCopier x) r h = absurd h
forgot_rogue (Kinds.NetClient x) r h = absurd h
forgot_rogue (Kinds.NetVirtTx x) r h = absurd h
forgot_rogue (Kinds.DiskDevice x) r h = absurd h
forgot_rogue (Kinds.BlkDriver x) r h = absurd h
forgot_rogue (Kinds.BlkVirt x) r h = absurd h
forgot_rogue (Kinds.BlkClient x) r h = absurd h

maps_twice : (ps : List Apart) → map part_anew (map (λ (p : Apart). p.actor) ps) ≡ map (λ (p : Apart). part_anew p.actor) ps
maps_twice [] = refl
maps_twice (p ∷ ps) = ap (λ (l : List Part). part_anew p.actor ∷ l) (maps_twice ps)

-- no word was stored there
none_stored : (rows : List QueueRow) (ended : List EndedIs) (n : ℕ) → (queue_at (all_adopted rows ended) n).indices.stored ≡ false
none_stored [] ended n = refl
none_stored (row ∷ rows) [] n = refl
none_stored (row ∷ rows) (e ∷ ended) zero = refl
none_stored (row ∷ rows) (e ∷ ended) (suc n) = none_stored rows ended n

map_twice : (ps : List Apart) → map part_of (actors_apart ps) ≡ map (λ (p : Apart). part_of p.actor) ps
map_twice [] = refl
map_twice (p ∷ ps) = ap (λ (l : List Part). part_of p.actor ∷ l) (map_twice ps)

-- what is left at a queue of a row
record Ended (parts : List Apart) (ended : List EndedIs) (n : ℕ) (row : QueueRow) : Type 0 where
  pub e : EndedIs
  pub there : slice_get ended n ≡ Some e
  pub put : (p : EndIs) → OwnEnd parts row Producer n p → e.producer.entries ≡ p.knows.entries
  pub wild : e.producer.wild ≡ not (is_calm (hostile_apart parts) row)
  pub kind : e.producer.kind ≡ row.kind

module _ (s : Setting) (rings : List RingIs) (parts : List Apart) (fitted : IsFitted s) (few : length s.cast ≤ 65536) (apart : AreApart s.rows rings parts) (actors nows : List Actor) (ended : List EndedIs) (done : AreFinished s.rows rings parts actors ended) (forgotten : AllZip IsForgotten actors nows) (cast : map part_of actors ≡ s.cast)
    (olds : List Actor) (calls : List Event) (held : HaveHeld s.rows olds actors (passed_of ended calls)) (over : (n : ℕ) → (passed_of ended calls).sent n ≡ (passed_of ended calls).taken n ++ left_at ended n) (looks : (r : Role) (n : ℕ) → noes_left ended r n ≡ noes_at r n calls) where
  abbrev rows : List QueueRow
  rows = s.rows

  abbrev passed : Passed
  passed = passed_of ended calls

  abbrev world : List Queue
  world = all_adopted rows ended

  abbrev history : History
  history = history_left ended

  abbrev names : List Noted
  names = names_left 0 ended

  -- the parts as they were, and as they are
  abbrev wc : List Part
  wc = map part_of actors

  abbrev nc : List Part
  nc = map part_of nows

  -- in the scene that the parts give
  in_place : IsInPlace rows s.pools s.cast
  in_place = fitted_place s fitted

  alike : AreAlike s.cast nc
  alike = ap (map disarmed) (parts_forgot actors nows forgotten) ∙ (all_disarmed actors ∙ ap (map disarmed) cast)

  hosts_now : hostiles nc ≡ hostiles s.cast
  hosts_now = hosts_alike s.cast nc alike

  hosts_stay : hostiles wc ≡ hostiles nc
  hosts_stay = ap hostiles cast ∙ sym hosts_now

  scene_stays : scene_of wc ≡ scene_of nc
  scene_stays = ap scene_of cast ∙ sym (scene_alike s.cast nc alike)

  parts_many : length parts ≡ length s.cast
  parts_many = sym (length-map parts (λ (p : Apart). p.actor)) ∙ (sym (ap length done.actors_are) ∙ (sym (length-map actors part_of) ∙ ap length cast))

  nows_many : length nows ≡ length s.cast
  nows_many = sym (length-map nows part_of) ∙ as_many s.cast nc alike

  cast_apart : map (λ (p : Apart). part_of p.actor) parts ≡ s.cast
  cast_apart = sym (map_twice parts) ∙ (ap (map part_of) (sym done.actors_are) ∙ cast)

  hosts_apart : hostile_apart parts ≡ hostiles nc
  hosts_apart = ap hostiles cast_apart ∙ sym hosts_now

  peopled : IsPeopled rows (length parts)
  peopled n row at r = subst (λ (m : ℕ). owner_of row r < m) (sym parts_many) (fitted.peopled n row at r)

  left : AreLeft rows parts ended
  left = are_left rows rings parts actors ended apart peopled done

  ended_many : length ended ≡ length rows
  ended_many = done.many ∙ all_long (IsRingOf (hostile_apart parts)) rows rings apart.rings_are

  ended_at : (n : ℕ) (row : QueueRow) → slice_get rows n ≡ Some row → Ended parts ended n row
  ended_at n row at =
      let lt = there_below rows n row at in
      let g = there_is rings n (let l = all_long (IsRingOf (hostile_apart parts)) rows rings apart.rings_are in omega (arith, lt, l)) in
      let of_ring = all_at (IsRingOf (hostile_apart parts)) rows rings apart.rings_are n row g.0 at g.1 in
      let e = there_is ended n (let l = ended_many in omega (arith, lt, l)) in
      let p = there_is parts (owner_of row Producer) (peopled n row at Producer) in
      let c = there_is parts (owner_of row Consumer) (peopled n row at Consumer) in
      let puts = (apart.ends (owner_of row Producer) p.0 p.1).all Producer n row at refl in
      let takes = (apart.ends (owner_of row Consumer) c.0 c.1).all Consumer n row at refl in
      let own_c : OwnEnd parts row Consumer n takes.0 = record { owner = c.0; there = c.1; end = takes.1 } in
      let has = done.each n row g.0 e.0 at g.1 e.1 puts.0 takes.0 (record { owner = p.0; there = p.1; end = puts.1 }) own_c in record {
        e = e.0;
        there = e.1;
        put = λ q own. ap (λ (h : Half). h.entries) (done.each n row g.0 e.0 at g.1 e.1 q takes.0 own own_c).producer;
        wild = ap (λ (h : Half). h.wild) has.producer ∙ (has.producer_sort ∙ of_ring.2);
        kind = ap (λ (h : Half). h.kind) has.producer ∙ (has.producer_kind ∙ of_ring.0);
      }

  -- an actor that forgot its looks, with the one that it was, apart
  record Was (k : ℕ) (x : Actor) : Type 0 where
    pub old : Actor
    pub there : slice_get actors k ≡ Some old
    pub forgot : IsForgotten old x
    pub part : Apart
    pub here : slice_get parts k ≡ Some part
    pub is : part.actor ≡ old

  part_there : (k : ℕ) (x : Actor) → slice_get actors k ≡ Some x → (p : Apart) × (slice_get parts k ≡ Some p) × (p.actor ≡ x)
  part_there k x at = map_from (λ (p : Apart). p.actor) parts k x (ap (λ (l : List Actor). slice_get l k) (sym done.actors_are) ∙ at)

  was : (k : ℕ) (x : Actor) → slice_get nows k ≡ Some x → Was k x
  was k x at =
      let old = there_is actors k (let lt = there_below nows k x at in let m = all_long IsForgotten actors nows forgotten in omega (arith, lt, m)) in
      let p = part_there k old.0 old.1 in record {
        old = old.0;
        there = old.1;
        forgot = all_at IsForgotten actors nows forgotten k old.0 x old.1 at;
        part = p.0;
        here = p.1;
        is = p.2;
      }

  fits_apart : (k : ℕ) (p : Apart) → slice_get parts k ≡ Some p → FitsActor (apart_end p) p.actor
  fits_apart k p at = (apart.stand k p at).fits

  fits_was : (k : ℕ) (x : Actor) → (w : Was k x) → FitsActor (apart_end w.part) x
  fits_was k x w = w.forgot.fits (apart_end w.part) (subst (FitsActor (apart_end w.part)) w.is (fits_apart k w.part w.here))

  in_place_was : IsInPlace rows s.pools wc
  in_place_was = subst (IsInPlace rows s.pools) (sym cast) in_place

  in_place_now : IsInPlace rows s.pools nc
  in_place_now = in_place_alike s.cast nc alike rows s.pools in_place

  -- an actor's ends are its own by the rows
  own_was : (k : ℕ) (p : Apart) → slice_get parts k ≡ Some p → (r : Role) (n : ℕ) → ActorEnd p.actor r n → (row : QueueRow) × (slice_get rows n ≡ Some row) × (owner_of row r ≡ k)
  own_was k p at r n own =
      let here : slice_get actors k ≡ Some p.actor = ap (λ (l : List Actor). slice_get l k) done.actors_are ∙ map_get (λ (q : Apart). q.actor) parts k p at in
      let e = end_seat (scene_of wc) (part_of p.actor) r n (to_part p.actor r n (fits_whole (apart_end p) p.actor (fits_apart k p at)) own) in
      in_place_was.seated k (part_of p.actor) (map_get part_of actors k p.actor here) e.0 (record { queue = n; role = r }) e.1

  own_now : (k : ℕ) (x : Actor) → slice_get nows k ≡ Some x → (r : Role) (n : ℕ) → ActorEnd x r n → (row : QueueRow) × (slice_get rows n ≡ Some row) × (owner_of row r ≡ k)
  own_now k x at r n own =
      let w = was k x at in
      let e = end_seat (scene_of nc) (part_of x) r n (to_part x r n (fits_whole (apart_end w.part) x (fits_was k x w)) own) in
      in_place_now.seated k (part_of x) (map_get part_of nows k x at) e.0 (record { queue = n; role = r }) e.1

  fits_now : (k : ℕ) (x : Actor) → slice_get nows k ≡ Some x → FitsActor (end_at world) x
  fits_now k x at = let w = was k x at in left.fits k w.part x w.here (subst (λ (y : Actor). Forgot y x) (sym w.is) w.forgot.forgot) (fits_was k x w) (own_now k x at)

  stands_now : (k : ℕ) (x : Actor) → slice_get nows k ≡ Some x → ActorStandsFor x passed
  stands_now k x at = let w = was k x at in w.forgot.stands passed (held.stands k w.old w.there)

  no_loop : (k : ℕ) (x : Actor) → slice_get nows k ≡ Some x → (n : ℕ) → ActorEnd x Consumer n → ActorEnd x Producer n → ⊥
  no_loop k x at n takes puts =
      let a = own_now k x at Consumer n takes in
      let b = own_now k x at Producer n puts in
      fitted.split n b.0 b.1 (b.2 ∙ (sym a.2 ∙ ap (λ (row : QueueRow). row.consumer.0) (some_is (sym a.1 ∙ b.1))))

  kinds : AreOfKind rows passed
  kinds n row at k c c_at = by (slice_get ended n) refl c_at
    where
      by : (o : Option EndedIs) → slice_get ended n ≡ o → slice_get (option_map_or (λ (e : EndedIs). e.producer.entries) o []) k ≡ Some c → kind_of c.0 ≡ row.kind
      by None none there = cc
      by (Some e) e_at there = all_of (λ (x : Cargo). kind_of x.0 ≡ row.kind) e.producer.entries k c (left.kinds n row e at e_at) there

  stands_there : (n : ℕ) → passed.sent n ≡ passed.taken n ++ (queue_at world n).entries
  stands_there n = over n ∙ ap (λ (l : List Cargo). passed.taken n ++ l) (sym (entries_left rows ended n ended_many))

  noes : (r : Role) (n : ℕ) → noes_at r n passed.calls ≡ noes_of r (history_at history n)
  noes r n = sym (looks r n) ∙ noes_shown ended r n

  items : HaveItems passed (moved history [])
  items = record { taken = taken_shown ended; sent = sent_shown ended; noes = noes }

  sends_was : ClientsSend rows s.cast passed
  sends_was = subst (λ (c : List Part). ClientsSend rows c passed) cast held.sends

  sends_now : ClientsSend rows nc passed
  sends_now = record {
    frames = λ net has. subst (λ (h : Hostiles). CalmSend (wild_in h rows) net passed) (sym hosts_now) (sends_was.frames net (subst (λ (z : Scene). HasWholeIn z rows net s.cast) (scene_alike s.cast nc alike) (whole_alike nc s.cast (sym alike) (scene_of nc) rows net has)));
    requests = λ k req resp asks pool calm at. sends_was.requests k req resp asks pool (ap (λ (h : Hostiles). h k) (sym hosts_now) ∙ calm) (same_there s.cast nc alike k (BlockPart (BlkClient req resp asks pool)) refl at);
  }

  work : AreAtWork (end_at world) rows nows passed
  work = record { fits = fits_now; stands = stands_now; hands_over = λ n. ((queue_at world n).entries, sym (stands_there n)); kinds = kinds }

  -- the names that are kept of a queue
  noted_is : (n : ℕ) (row : QueueRow) (at : slice_get rows n ≡ Some row) → is_noted (ended_at n row at).e ≡ is_wild (hostiles nc) row
  noted_is n row at = let e = ended_at n row at in λ i. (e.wild ∙ ap (λ (h : Hostiles). not (is_calm h row)) hosts_apart) i && carries_pages (e.kind i)

  named : (n : ℕ) (row : QueueRow) (at : slice_get rows n ≡ Some row) → is_wild (hostiles nc) row ≡ true → told_by names n ≡ names_of (ended_at n row at).e.producer.entries
  named n row at is = let e = ended_at n row at in ap (told_by names) (let m : n ≡ 0 + n = omega arith in m) ∙ told_left 0 n ended e.e e.there (noted_is n row at ∙ is)

  noted : AreNoted (wild_in (hostiles nc) rows) names passed
  noted n is = by (slice_get rows n) refl
    where
      by : (o : Option QueueRow) → slice_get rows n ≡ o → told_by names n ≡ names_at passed n
      by None none = let no : true ≡ false = sym is ∙ ap (λ (o : Option QueueRow). option_map_or (is_wild (hostiles nc)) o false) none in cc
      by (Some row) at =
          let e = ended_at n row at in
          named n row at (ap (λ (o : Option QueueRow). option_map_or (is_wild (hostiles nc)) o false) (sym at) ∙ is)
          ∙ ap names_of (sym (ap (λ (o : Option EndedIs). option_map_or (λ (x : EndedIs). x.producer.entries) o []) e.there))

  told_now : (k : ℕ) (x : Actor) → slice_get nows k ≡ Some x → ToldInTurn (scene_of nc) (wild_in (hostiles nc) rows) (told_by names) x passed
  told_now = told_turns (end_at world) rows s.pools nows passed in_place_now work sends_now (told_by names) (noted_tell (wild_in (hostiles nc) rows) names passed noted)

  placed_was : (place : PoolPlace) → IsPlaced rows place nc → IsPlaced rows place wc
  placed_was place placed = subst (IsPlaced rows place) (sym cast) (placed_alike nc s.cast (sym alike) rows place placed)

  pub holds : Holds history rows names world nows []
  holds = record {
    passed = passed;
    stands_there = stands_there;
    shows_taken = taken_shown ended;
    shows_sent = sent_shown ended;
    shows_noes = noes;
    told = told_anew history nows passed items stands_now;
    kinds = kinds;
    size = left.size;
    queues = λ n row at. (left.each n row at).shown;
    fits = fits_now;
    stands = stands_now;
    carry = λ place placed. subst (λ (z : Hostiles × Scene). CarryBeside (wild_in z.0 rows) (is_rogues (wild_in z.0 rows) place) (cast_naming z.1 place) (moved history []) passed) (λ i. (hosts_stay i, scene_stays i)) (held.carry place (placed_was place placed) (moved history []) items);
    asks = λ place placed. subst (λ (h : Hostiles). RoguesAsk (wild_in h rows) place passed) hosts_stay (held.asks place (placed_was place placed));
    sends = sends_now;
    noted = noted;
    in_turn = told_now;
    acts = λ k r at. (let w = was k (Kinds.Rogue r) at in begins k r (forgot_rogue w.old r w.forgot.forgot));
    owners = λ k x at r n own row there. (let o = own_now k x at r n own in ap (λ (w : QueueRow). owner_of w r) (some_is (sym there ∙ o.1)) ∙ o.2);
    unstored = λ n row at calm. none_stored rows ended n;
    paced = λ k x at calm. paced_anew (pendings history []) (actor_round x) (fits_round (end_at world) x (calm_there nc k x (map_get part_of nows k x at) calm.calm) (fits_now k x at) (no_loop k x at));
    peers = λ n row at r. subst (λ (m : ℕ). owner_of row r < m) (sym nows_many) (fitted.peopled n row at r);
    few = subst (λ (m : ℕ). m ≤ 65536) (sym nows_many) few;
    legal = tt;
  }

  -- with its queues and its actors
  abbrev setting_now : Setting
  setting_now = record (begun history rows s.pools nows s.net s.serial s.blk) { names = names }

  before : HoldsBefore setting_now
  before = record { bells_hold = λ n row at calm. (left.each n row at).bells_hold (ap (λ (h : Hostiles). is_calm h row) hosts_apart ∙ calm); flows = λ n row at. (left.each n row at).flows }

  none_noted : (h : Hostiles) → ((k : ℕ) → h k ≡ false) → (row : QueueRow) → is_wild h row ≡ false
  none_noted h nobody row = λ i. not (not (nobody row.producer.0 i) && not (nobody row.consumer.0 i)) && carries_pages row.kind

  names_none : AllCalm nc → names ≡ []
  names_none calm = none_left 0 ended (λ n e at.
      let row = there_is rows n (let lt = there_below ended n e at in let l = ended_many in omega (arith, lt, l)) in
      let here = ended_at n row.0 row.1 in
      ap is_noted (some_is (sym at ∙ here.there)) ∙ (noted_is n row.0 row.1 ∙ none_noted (hostiles nc) (calm_actor nc calm) row.0))

  refitted_now : IsFitted setting_now
  refitted_now = record {
    scene_is = refl;
    names_are = names_none;
    peopled = λ n row at r. subst (λ (m : ℕ). owner_of row r < m) (sym (as_many s.cast nc alike)) (fitted.peopled n row at r);
    seated = in_place_now.seated;
    ends = in_place_now.filled;
    split = fitted.split;
    wired = subst (λ (z : Scene). IsWiredIn z rows nc) (fitted.scene_is ∙ sym (scene_alike s.cast nc alike)) (wired_alike s.cast nc alike s.scene rows fitted.wired);
    pooled = in_place_now.pooled;
    owners = past_owners history rows names world nows holds s.pools in_place_now before.flows;
    numbered = fitted.numbered;
    places = fitted.places;
  }

  pub goes_on : GoesOn setting_now world nows
  goes_on = record { fitted = refitted_now; before = before; holds = holds }

  -- each actor is at rest as it was
  abbrev no_ends : Role → ℕ → End
  no_ends r n = no_end

  -- the ends of all as they were: of each queue those of its owner
  abbrev ends_was : Role → ℕ → End
  ends_was r n = option_map_or (λ (p : Apart). apart_end p r n) (slice_get parts (option_map_or (λ (row : QueueRow). owner_of row r) (slice_get rows n) 0)) (no_ends r n)

  work_was : AreAtWork ends_was rows actors passed
  work_was = record {
    fits = λ k x at.
        let p = part_there k x at in
        subst (FitsActor ends_was) p.2 (fits_beside (apart_end p.0) ends_was p.0.actor (λ r n own.
        let o = own_was k p.0 p.1 r n own in
        ap (λ (j : ℕ). option_map_or (λ (q : Apart). apart_end q r n) (slice_get parts j) (no_ends r n)) (ap (λ (w : Option QueueRow). option_map_or (λ (row : QueueRow). owner_of row r) w 0) o.1 ∙ o.2)
        ∙ ap (λ (w : Option Apart). option_map_or (λ (q : Apart). apart_end q r n) w (no_ends r n)) p.1) (fits_apart k p.0 p.1));
    stands = held.stands;
    hands_over = λ n. (left_at ended n, sym (over n));
    kinds = kinds;
  }

  told_was : (k : ℕ) (x : Actor) → slice_get actors k ≡ Some x → ToldInTurn (scene_of nc) (wild_in (hostiles nc) rows) (told_by names) x passed
  told_was k x at = subst (λ (z : Hostiles × Scene). ToldInTurn z.1 (wild_in z.0 rows) (told_by names) x passed) (λ i. (hosts_stay i, scene_stays i))
      (told_turns ends_was rows s.pools actors passed in_place_was work_was held.sends (told_by names) (noted_tell (wild_in (hostiles wc) rows) names passed (subst (λ (h : Hostiles). AreNoted (wild_in h rows) names passed) (sym hosts_stay) noted)) k x at)

  bells : HaveBells world history []
  bells n lt = let row = there_is rows n (let long = left.size in omega (arith, lt, long)) in (left.each n row.0 row.1).shown.bells

  rests_as : (k : ℕ) (p : Apart) → slice_get parts k ≡ Some p → rests_first setting_now (part_anew p.actor) ≡ actor_rests p.actor
  rests_as k p at = by (calm_or_rogue p.actor)
    where
      here : slice_get actors k ≡ Some p.actor
      here = ap (λ (l : List Actor). slice_get l k) done.actors_are ∙ map_get (λ (q : Apart). q.actor) parts k p at

      settled : manner_of (part_of p.actor) ≡ Calm → actor_rests p.actor ≡ all_settled history [] ((told_sheet (scene_of nc) (wild_in (hostiles nc) rows) (told_by names) (part_of p.actor)).wants (moved history []))
      settled calm = rests_left world history (length-map ended track_of ∙ (ended_many ∙ sym left.size)) bells (scene_of nc) (wild_in (hostiles nc) rows) (told_by names) p passed
          (λ r n own. (
          let o = own_was k p at r n own in
          (let lt = there_below rows n o.0 o.1 in let long = left.size in omega (arith, lt, long), same_end rows rings parts actors ended apart peopled done k p at r n o.0 o.1 o.2)
          ))
          (fits_apart k p at) calm (told_was k p.actor here) (held.stands k p.actor here) items

      calm_rests : (q : Part) → manner_of q ≡ Calm → rests_first setting_now q ≡ all_settled history [] ((told_sheet (scene_of nc) (wild_in (hostiles nc) rows) (told_by names) q).wants (moved history []))
      calm_rests q calm = ap (λ (m : Manner). rests_by m (all_settled history [] ((told_sheet (scene_of nc) (wild_in (hostiles nc) rows) (told_by names) q).wants (moved history [])))) calm

      by : (manner_of (part_of p.actor) ≡ Calm) ⊎ ((r : Rogue) × (p.actor ≡ Kinds.Rogue r)) → rests_first setting_now (part_anew p.actor) ≡ actor_rests p.actor
      by (inl calm) = ap (rests_first setting_now) (anew_is p.actor calm) ∙ (calm_rests (part_of p.actor) calm ∙ sym (settled calm))
      by (inr r) = subst (λ (y : Actor). rests_first setting_now (part_anew y) ≡ actor_rests y) (sym r.1) refl

  scene_is : s.scene ≡ scene_of nc
  scene_is = fitted.scene_is ∙ sym (scene_alike s.cast nc alike)

  was_parts : nc ≡ map (λ (p : Apart). part_anew p.actor) parts
  was_parts = parts_forgot actors nows forgotten ∙ (ap (map part_anew) done.actors_are ∙ maps_twice parts)

  now_calm : AllCalm s.cast → setting_now ≡ record s { history = history }
  now_calm calm =
      let same : nc ≡ s.cast = parts_forgot actors nows forgotten ∙ (calm_anew actors (subst AllCalm (sym cast) calm) ∙ cast) in
      let none : names ≡ s.names = names_none (subst AllCalm (sym same) calm) ∙ sym (fitted.names_are calm) in
      λ i. record s { history = history; cast = same i; scene = (sym scene_is) i; names = none i }

  pub is_adopted : (t : Shown) → t.setting ≡ setting_now → t.journal ≡ [] → IsAdopted s parts t
  is_adopted t is none =
      let past : t.setting.history ≡ history = ap (λ (z : Setting). z.history) is in record {
        setting = subst (λ (z : Setting). z ≡ record s { history = z.history; cast = z.cast; names = z.names }) (sym is) (λ i. record s { history = history; cast = nc; scene = (sym scene_is) i; names = names });
        journal = none;
        was = cast_apart;
        cast = ap (λ (z : Setting). z.cast) is ∙ was_parts;
        calm = λ calm. is ∙ (now_calm calm ∙ ap (λ (h : History). record s { history = h }) (sym past));
        named = λ n row at wild p own.
            ap (λ (z : Setting). told_by z.names n) is
            ∙ (named n row at (ap (λ (o : Option QueueRow). option_map_or (is_wild (hostiles nc)) o false) (sym at) ∙ (ap (λ (h : Hostiles). wild_in h rows n) hosts_now ∙ wild))
            ∙ ap names_of ((ended_at n row at).put p own));
        keeps = λ n row at p c own_p own_c. subst (λ (h : History). TellsEnds p.knows c.knows (history_at h n)) (sym past) ((left.each n row at).tells p c own_p own_c);
        rests = λ k p at. subst (λ (z : Setting). rests_first z (part_anew p.actor) ≡ actor_rests p.actor) (sym is) (rests_as k p at);
      }

-- actors that came from a system in its start state have gone apart
module _ (s : Setting) (rings : List RingIs) (parts : List Apart) (come : HaveComeFrom s rings parts) where
  old_cast : map part_of (actors_apart come.olds) ≡ s.cast
  old_cast = map_twice come.olds ∙ come.cast

  olds_many : length come.olds ≡ length s.cast
  olds_many = sym (length-map come.olds (λ (p : Apart). part_of p.actor)) ∙ ap length come.cast

  pub have_gone : HaveGone s.rows rings come.olds parts
  have_gone = record {
    pools = s.pools;
    in_place = subst (IsInPlace s.rows s.pools) (sym old_cast) (fitted_place s come.fitted);
    split = come.fitted.split;
    peopled = λ n row at r. subst (λ (m : ℕ). owner_of row r < m) (sym olds_many) (come.fitted.peopled n row at r);
    stood = come.before;
    nothing = come.nothing;
    many = come.many;
    stand = come.after;
    gone = come.gone;
  }

  -- so the system that takes over what is left goes on from it
  module _ (few : length s.cast ≤ 65536) (actors nows : List Actor) (ended : List EndedIs) (done : AreFinished s.rows rings parts actors ended) (forgotten : AllZip IsForgotten actors nows) where
    held : (calls : List Event) × HaveHeld s.rows (actors_apart come.olds) actors (passed_of ended calls) × HaveLooked s.rows come.olds ended calls
    held = went_on s.rows rings come.olds parts actors ended have_gone done

    over : (n : ℕ) → (passed_of ended held.0).sent n ≡ (passed_of ended held.0).taken n ++ left_at ended n
    over n = hand_over s.rows rings come.olds parts actors ended have_gone done held.0 n

    looks : (r : Role) (n : ℕ) → noes_left ended r n ≡ noes_at r n held.0
    looks r n = let all = held.2 r n in let none = none_opened come.olds s.rows come.opened r n in omega (arith, all, none)

    cast_is : map part_of actors ≡ s.cast
    cast_is = held.1.parts ∙ old_cast

    many : length ended ≡ length s.rows
    many = done.many ∙ all_long (IsRingOf (hostile_apart parts)) s.rows rings come.after.rings_are

    come_ended : AllZip IsEndedOf s.rows ended
    come_ended = (left s rings parts come.fitted few come.after actors nows ended done forgotten cast_is (actors_apart come.olds) held.0 held.1 over looks).ended_of

    come_goes : GoesOn (begun_on ended s.rows s.pools nows s.net s.serial s.blk) (all_adopted s.rows ended) nows
    come_goes = subst (λ (h : History). GoesOn (record (begun h s.rows s.pools nows s.net s.serial s.blk) { names = names_left 0 ended }) (all_adopted s.rows ended) nows) (sym (history_is s.rows ended many)) (goes_on s rings parts come.fitted few come.after actors nows ended done forgotten cast_is (actors_apart come.olds) held.0 held.1 over looks)

    come_adopted : (t : Shown) → t ≡ started_on ended s.rows s.pools (all_adopted s.rows ended) nows s.net s.serial s.blk → IsAdopted s parts t
    come_adopted t is = is_adopted s rings parts come.fitted few come.after actors nows ended done forgotten cast_is (actors_apart come.olds) held.0 held.1 over looks t
        (ap (λ (z : Shown). z.setting) is ∙ ap (λ (h : History). record (begun h s.rows s.pools nows s.net s.serial s.blk) { names = names_left 0 ended }) (history_is s.rows ended many))
        (ap (λ (z : Shown). z.journal) is)

-- the same at the rows, the pools and the crews of a plan
abbrev Given : Type 0
Given = List QueueRow × List PoolRow × Crew × Crew × Crew

module _ (plan : Plan) (valid : Valid plan) (trace : Trace) (s : Setting) (cast : IsCastOf plan trace s) (rings : List RingIs) (parts : List Apart) (come : HaveComeFrom s rings parts) (rows : List QueueRow) (rows_are : rows ≡ queues_of plan) where
  few_cast : length s.cast ≤ 65536
  few_cast = subst (λ (n : ℕ). n ≤ 65536) (sym cast.count) (few_numbers plan valid)

  same_rows : rows ≡ s.rows
  same_rows = rows_are ∙ sym cast.rows

  pub parts_apart : AreApart rows rings parts
  parts_apart = subst (λ (rs : List QueueRow). AreApart rs rings parts) (sym same_rows) come.after

  pub parts_people : (n : ℕ) (row : QueueRow) → slice_get rows n ≡ Some row → (r : Role) → owner_of row r < length parts
  parts_people n row at r =
      let many = come.many in
      let old = sym (length-map come.olds (λ (p : Apart). part_of p.actor)) ∙ ap length come.cast in
      subst (λ (m : ℕ). owner_of row r < m) (sym (many ∙ old)) (come.fitted.peopled n row (ap (λ (rs : List QueueRow). slice_get rs n) (sym same_rows) ∙ at) r)

  pub parts_sized : AreSized rows
  parts_sized = subst AreSized (sym same_rows) (are_sized s.rows come.fitted.numbered come.fitted.places)

  module _ (actors nows : List Actor) (ended : List EndedIs) (done : AreFinished rows rings parts actors ended) (forgotten : AllZip IsForgotten actors nows) where
    done_there : AreFinished s.rows rings parts actors ended
    done_there = subst (λ (rs : List QueueRow). AreFinished rs rings parts actors ended) same_rows done

    pub parts_ended : AllZip IsEndedOf rows ended
    parts_ended = subst (λ (rs : List QueueRow). AllZip IsEndedOf rs ended) (sym same_rows) (come_ended s rings parts come few_cast actors nows ended done_there forgotten)

    module _ (pools : List PoolRow) (pools_are : pools ≡ pools_of plan) (net serial blk : Crew) (net_is : net ≡ net_crew plan) (serial_is : serial ≡ serial_crew plan) (blk_is : blk ≡ blk_crew plan) where
      abbrev given : Given
      given = (rows, pools, net, serial, blk)

      abbrev theirs : Given
      theirs = (s.rows, s.pools, s.net, s.serial, s.blk)

      same_given : theirs ≡ given
      same_given = λ i. (sym same_rows i, (cast.pools ∙ sym pools_are) i, (cast.net ∙ sym net_is) i, (cast.serial ∙ sym serial_is) i, (cast.blk ∙ sym blk_is) i)

      pub parts_go : GoesOn (begun_on ended rows pools nows net serial blk) (all_adopted rows ended) nows
      parts_go = subst (λ (g : Given). GoesOn (begun_on ended g.0 g.1 nows g.2 g.3 g.4) (all_adopted g.0 ended) nows) same_given (come_goes s rings parts come few_cast actors nows ended done_there forgotten)

      pub parts_adopted : (t : Shown) → t ≡ started_on ended rows pools (all_adopted rows ended) nows net serial blk → IsAdopted s parts t
      parts_adopted t is = come_adopted s rings parts come few_cast actors nows ended done_there forgotten t (is ∙ ap (λ (g : Given). started_on ended g.0 g.1 (all_adopted g.0 ended) nows g.2 g.3 g.4) (sym same_given))

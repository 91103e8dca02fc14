use Rattle.std.proofs.Common.{◌≡◌, ◌≢◌, ◌⊎◌, ◌==◌, ◌<◌, ℕ, true, false, Some, List, [], ◌∷◌, ◌++◌, length, length-set, slice_get, slice_set, get_or, get_or-set_same, get_or-set_other, refl, sym, ◌∙◌, subst, ap, inl, inr, map, zero, suc}
use Rattle.std.proofs.lemmas.List.{append-nil}
use Rattle.std.proofs.lemmas.Option.{slice_get-get_or}
use Rattle.std.proofs.Math.Dec.{eqb}
use Rattle.std.proofs.lemmas.Bool.Decides.{eqb_tells}
use Rattle.cargo_core.specs.Items.{kind_of}
use Rattle.wire_core.specs.declared.names.PoolRow.{PoolRow}
use Rattle.wire_core.specs.declared.names.QueueRow.{QueueRow}
use Rattle.wire_core.specs.declared.names.Event.{Event}
use Rattle.wire_core.specs.declared.names.Entry.{Entry}
use Rattle.wire_core.specs.Deeds.{Deed, Cargo, cargo_of}
use Rattle.wire_core.specs.Ends.{Role, Consumer, Producer, Moves, role_of}
use Rattle.wire_core.specs.Fates.{noes_at}
use Rattle.wire_core.specs.Lists.{Passed, Stepped, with_deed, if_there, if_put, put_by, taken_by}
use Rattle.wire_core.specs.Queues.{Queue, Happens, queue_at, no_queue, end_at, items_of, after, is_store}
use Rattle.wire_core.specs.Journal.{track, track_after, History, Hostiles, history_at, if_on, IsShown, LegalEntry, LegalJournal, MayCall, owner_of, is_calm}
use Rattle.wire_core.proofs.Moving.{moves}
use Rattle.wire_core.proofs.Places.{slice_get_written, slice_get_beside}
use Rattle.wire_core.proofs.Beside.{take_beside, put_beside}
use Rattle.wire_core.proofs.Tracks.{EachFrom-append, track_from-append, shown_tells, shown_finds, shown_condition, shown_carries, shown_after}
use Rattle.wire_core.specs.Ends.{waiting_role}
use Rattle.wire_core.specs.Marks.{Drops, HasCalmQueues, since}
use Rattle.wire_core.proofs.Answering.{finds, tells, stays}
use Rattle.client_programs.specs.declared.rogue.Rogue.{Rogue}
use Rattle.turn_kit.specs.Turns.{Turned, is_at_rest}
use Rattle.turn_kit.specs.Pace.{Paced, pendings, IsCalled}
use Rattle.turn_kit.proofs.Playing.{pace_own, pace_beside}
use Rattle.turn_kit.proofs.Plainness.{plain_next}
use Rattle.actor_set.proofs.LawsLemmas.Paces.{post_end}
use Rattle.actor_set.specs.Actors.{FitsActor, ActorStandsFor, ActorEnd, ActorTurned, ActsAlike, IsActorCall, IsWhole, part_of, actor_round}
use Rattle.actor_set.specs.Rogues.{KeepsActs}
use Rattle.actor_set.proofs.LawsLemmas.Rounds.{acted_is, turned_is}
use Rattle.actor_set.proofs.RogueLemmas.Playing.{beside as acts_beside, own as acts_next}
use Rattle.play_core.specs.Manners.{Calm}
use Rattle.play_core.specs.Names.{AreNoted, Noted, Wild, notes_of, told_by, wild_in}
use Rattle.play_core.proofs.Noting.{notes_keep}
use Rattle.actor_set.specs.Parts.{Part}
use Rattle.play_core.specs.Moved.{moved, noes_of}
use Rattle.play_core.proofs.Looking.{looks_kept}
use Rattle.play_core.specs.Sheets.{AreFilled, AreSeated}
use Rattle.actor_set.specs.Laws.Kinds.{sheet, scene_of, hostiles, manner_of}
use Rattle.actor_set.specs.Laws.Scenes.{ToldInTurn}
use Rattle.system_core.specs.Systems.{Holds}
use Rattle.actor_set.specs.declared.actor.Actor.{Actor}
use Rattle.actor_set.specs.declared.actor.Actor.TheVariants as Kinds
use Rattle.actor_set.proofs.LawsLemmas.Alike.{alike_more}
use Rattle.actor_set.proofs.LawsLemmas.Beside.{fits_beside, stands_beside}
use Rattle.actor_set.proofs.LawsLemmas.PartEnds.{same_part}
use Rattle.actor_set.proofs.LawsLemmas.Starts.{fits_whole}
use Rattle.wired_law.specs.Wiring.{IsWired, AreAtWork, ClientsSend}
use Rattle.cast_law.specs.Pools.Beside.{CastCarries, RoguesAsk}
use Rattle.cast_law.specs.Pools.Places.{PoolPlace, IsInPlace, IsPlaced}
use Rattle.cast_law.proofs.BesideLemmas.Asking.{asks_on}
use Rattle.cast_law.proofs.BesideLemmas.Carrying.{call_carries}
use Rattle.cast_law.proofs.TurnsLemmas.{all_told, noted_tell, told_turns, wired_place}
use Rattle.wired_law.proofs.Wiring.{sends_on}
use Rattle.cast_bound.specs.Dropping.{drops_in}
use Rattle.system_core.proofs.Dropping.{drops_own}
use Rattle.system_core.proofs.Marking.{told_more}
use Rattle.system_core.proofs.Hosts.{CallsAt, calls_at_end, calm_there, hostile_end, rogue_hostile, rogue_is, rogue_was, store_moves, store_puts, store_takes}
use Rattle.play_core.proofs.Lists.{some_is, map_get}
use Rattle.player_kit.proofs.Showing.{no_row, taken_shown, sent_shown, still_there, moved_there, none_put, put_kind}

abbrev pub entry_of : ℕ → Event → Entry
entry_of k e = record { actor = record { 0 = k }; event = e }

-- where one actor's part stays, all parts stay
pub map_same : (f : Actor → Part) (xs : List Actor) (k : ℕ) (x x' : Actor) → slice_get xs k ≡ Some x → f x' ≡ f x → map f (slice_set xs k x') ≡ map f xs
map_same f [] k x x' at same = refl
map_same f (a ∷ xs) zero x x' at same = let e : a ≡ x = some_is at in ap (λ b. b ∷ map f xs) (same ∙ ap f (sym e))
map_same f (a ∷ xs) (suc k) x x' at same = ap (λ bs. f a ∷ bs) (map_same f xs k x x' at same)

-- actor k, which is x, makes the call of event e, and is then x'
module _ (history : History) (rows : List QueueRow) (names : List Noted) (w v : List Queue) (actors : List Actor) (journal : List Entry) (k : ℕ) (x x' : Actor) (e : Event) (here : slice_get actors k ≡ Some x) (old : Holds history rows names w actors journal) (call : IsActorCall x e) (st : Stepped ActorStandsFor Happens w v x x' e) (turned : ActorTurned x e x')
    (runs : manner_of (part_of x) ≡ Calm → is_at_rest (actor_round x) ≡ true → IsCalled (pendings history journal) (actor_round x).posts) where
  deed : Deed
  deed = record { event = e; body = st.body }

  -- where it calls
  calls : CallsAt x e
  calls = calls_at_end x e call

  cast_here : slice_get (map part_of actors) k ≡ Some (part_of x)
  cast_here = map_get part_of actors k x here

  -- the row of its queue
  abbrev queue_row : QueueRow
  queue_row = get_or rows e.queue.0 no_row

  row_there : slice_get rows e.queue.0 ≡ Some queue_row
  row_there = slice_get-get_or rows e.queue.0 no_row (subst (λ n. e.queue.0 < n) old.size st.happened.there)

  -- it has an end of it
  has_end : owner_of queue_row calls.role ≡ k
  has_end = old.owners k x here calls.role e.queue.0 calls.own queue_row row_there

  -- an actor's ends are its own: no other actor has them
  apart : (j : ℕ) (y : Actor) → slice_get actors j ≡ Some y → (j ≡ k → ⊥) → ActorEnd y calls.role e.queue.0 → ⊥
  apart j y at away theirs = away (sym (old.owners j y at calls.role e.queue.0 theirs queue_row row_there) ∙ has_end)

  passed' : Passed
  passed' = with_deed old.passed deed

  more : (n : ℕ) → track history n (journal ++ entry_of k e ∷ []) ≡ if_on (e.queue.0 == n) (track_after (track history n journal) e) (track history n journal)
  more n = track_from-append (history_at history n) n journal (entry_of k e)

  shows_taken' : (n : ℕ) → items_of (passed'.taken n) ≡ (track history n (journal ++ entry_of k e ∷ [])).taken
  unfolding passed' deed
  shows_taken' n = taken_shown (e.queue.0 == n) (track history n journal) e (cargo_of deed) (old.passed.taken n) st.happened.may.item (old.shows_taken n) ∙ ap (λ t. t.taken) (sym (more n))

  shows_sent' : (n : ℕ) → items_of (passed'.sent n) ≡ (track history n (journal ++ entry_of k e ∷ [])).sent
  unfolding passed' deed
  shows_sent' n = sent_shown (e.queue.0 == n) (track history n journal) e (cargo_of deed) (old.passed.sent n) st.happened.may.item (old.shows_sent n) ∙ ap (λ t. t.sent) (sym (more n))

  -- what is a call more of all
  calls' : passed'.calls ≡ old.passed.calls ++ e ∷ []
  unfolding passed' deed
  calls' = refl

  shows_noes' : (r : Role) (n : ℕ) → noes_at r n passed'.calls ≡ noes_of r (track history n (journal ++ entry_of k e ∷ []))
  shows_noes' r n = ap (noes_at r n) calls' ∙ looks_kept r n history journal (entry_of k e) old.passed.calls (old.shows_noes r n)

  kinds' : (n : ℕ) (row : QueueRow) → slice_get rows n ≡ Some row → (j : ℕ) (c : Cargo) → slice_get (passed'.sent n) j ≡ Some c → ((eqb e.queue.0 n ≡ true) × (e.queue.0 ≡ n)) ⊎ ((eqb e.queue.0 n ≡ false) × (e.queue.0 ≢ n)) → kind_of c.0 ≡ row.kind
  unfolding passed' deed
  kinds' n row rat j c at (inl same) =
      let here : slice_get (old.passed.sent n ++ if_put e.op (cargo_of deed)) j ≡ Some c = subst (λ b. slice_get (old.passed.sent n ++ if_there b (if_put e.op (cargo_of deed))) j ≡ Some c) same.0 at in
      elim (put_kind (queue_at w e.queue.0) e.op (cargo_of deed) (old.passed.sent n) st.happened.may.carries j c here) [
        | inl was ↦ old.kinds n row rat j c was
        | inr is ↦ is ∙ (old.queues e.queue.0 row (rw same.1 rat)).kind
      ]
  kinds' n row rat j c at (inr away) =
      let here : slice_get (old.passed.sent n ++ []) j ≡ Some c = subst (λ b. slice_get (old.passed.sent n ++ if_there b (if_put e.op (cargo_of deed))) j ≡ Some c) away.0 at in
      old.kinds n row rat j c (none_put (old.passed.sent n) j c here)

  size' : length v ≡ length rows
  size' = ap length st.happened.after_is ∙ (length-set w e.queue.0 _ ∙ old.size)

  queue_after_here : (n : ℕ) (row : QueueRow) → slice_get rows n ≡ Some row → ((eqb e.queue.0 n ≡ true) × (e.queue.0 ≡ n)) ⊎ ((eqb e.queue.0 n ≡ false) × (e.queue.0 ≢ n)) → IsShown row (queue_at v n) (if_on (e.queue.0 == n) (track_after (track history n journal) e) (track history n journal))
  unfolding deed
  queue_after_here n row at (inl same) =
      rw (st.happened.after_is, same.0, ← same.1, get_or-set_same w e.queue.0 (after (queue_at w e.queue.0) deed) no_queue st.happened.there)
      (shown_after row (queue_at w e.queue.0) (track history e.queue.0 journal) deed (old.queues e.queue.0 row (rw same.1 at)) st.happened.may)
  queue_after_here n row at (inr away) =
      rw (st.happened.after_is, away.0, get_or-set_other w e.queue.0 n (after (queue_at w e.queue.0) deed) no_queue (λ h. away.1 (sym h)))
      (old.queues n row at)

  queues' : (n : ℕ) (row : QueueRow) → slice_get rows n ≡ Some row → IsShown row (queue_at v n) (track history n (journal ++ entry_of k e ∷ []))
  queues' n row at = subst (IsShown row (queue_at v n)) (sym (more n)) (queue_after_here n row at (eqb_tells e.queue.0 n))

  there_after : (n : ℕ) → ((eqb e.queue.0 n ≡ true) × (e.queue.0 ≡ n)) ⊎ ((eqb e.queue.0 n ≡ false) × (e.queue.0 ≢ n)) → passed'.sent n ≡ passed'.taken n ++ (queue_at v n).entries
  unfolding passed' deed
  there_after n (inl same) =
      rw (st.happened.after_is, same.0, ← same.1, get_or-set_same w e.queue.0 (after (queue_at w e.queue.0) deed) no_queue st.happened.there)
      (moved_there (queue_at w e.queue.0) e.op (cargo_of deed) (old.passed.sent e.queue.0) (old.passed.taken e.queue.0) st.happened.may.carries (old.stands_there e.queue.0))
  there_after n (inr away) =
      rw (st.happened.after_is, away.0, get_or-set_other w e.queue.0 n (after (queue_at w e.queue.0) deed) no_queue (λ h. away.1 (sym h)))
      (still_there (queue_at w n).entries (old.passed.sent n) (old.passed.taken n) (old.stands_there n))

  changes : Moves (end_at w) e (end_at v)
  unfolding deed
  changes = moves w deed v st.happened

  -- at an end of another actor nothing changes, nothing is taken and nothing put
  end_still : (j : ℕ) (y : Actor) → slice_get actors j ≡ Some y → (j ≡ k → ⊥) → (r : Role) (n : ℕ) → ActorEnd y r n → end_at v r n ≡ end_at w r n
  end_still j y at away r n theirs = elim calls.sort.1 [
    | inl same ↦ changes.others r n (λ a b. apart j y at away (subst (λ q. ActorEnd y q e.queue.0) (a ∙ sym same) (subst (ActorEnd y r) b theirs)))
    | inr store ↦ store_moves (end_at w) e (end_at v) changes store r n
  ]

  take_still : (j : ℕ) (y : Actor) → slice_get actors j ≡ Some y → (j ≡ k → ⊥) → (n : ℕ) → ActorEnd y Consumer n → taken_by deed n ≡ []
  unfolding deed
  take_still j y at away n theirs = elim calls.sort.1 [
    | inl same ↦ take_beside deed n (λ a b. apart j y at away (subst (λ q. ActorEnd y q e.queue.0) (sym (same ∙ a)) (subst (ActorEnd y Consumer) (sym b) theirs)))
    | inr store ↦ store_takes deed n store
  ]

  put_still : (j : ℕ) (y : Actor) → slice_get actors j ≡ Some y → (j ≡ k → ⊥) → (n : ℕ) → ActorEnd y Producer n → put_by deed n ≡ []
  unfolding deed
  put_still j y at away n theirs = elim calls.sort.1 [
    | inl same ↦ put_beside deed n (λ a b. apart j y at away (subst (λ q. ActorEnd y q e.queue.0) (sym (same ∙ a)) (subst (ActorEnd y Producer) (sym b) theirs)))
    | inr store ↦ store_puts deed n store
  ]

  -- another actor did the same by the calls with this one
  acts_alike : (j : ℕ) (y : Actor) → slice_get actors j ≡ Some y → (j ≡ k → ⊥) → ActsAlike y old.passed.calls passed'.calls
  acts_alike j y at away = subst (ActsAlike y old.passed.calls) (sym calls') (alike_more y old.passed.calls e (λ theirs. elim calls.sort.1 [
    | inl same ↦ absurd (apart j y at away (subst (λ q. ActorEnd y q e.queue.0) (sym same) theirs))
    | inr store ↦ store
  ]))

  fits' : FitsActor (end_at v) x' → (j : ℕ) (y : Actor) → slice_get (slice_set actors k x') j ≡ Some y → ((eqb j k ≡ true) × (j ≡ k)) ⊎ ((eqb j k ≡ false) × (j ≢ k)) → FitsActor (end_at v) y
  fits' new j y at (inl same) = let e : x' ≡ y = some_is (sym (slice_get_written actors k x x' here) ∙ (ap (slice_get (slice_set actors k x')) (sym same.1) ∙ at)) in subst (FitsActor (end_at v)) e new
  fits' new j y at (inr away) =
      let was : slice_get actors j ≡ Some y = sym (slice_get_beside actors k j x' away.1) ∙ at in
      fits_beside (end_at w) (end_at v) y (end_still j y was away.1) (old.fits j y was)

  stands' : (j : ℕ) (y : Actor) → slice_get (slice_set actors k x') j ≡ Some y → ((eqb j k ≡ true) × (j ≡ k)) ⊎ ((eqb j k ≡ false) × (j ≢ k)) → ActorStandsFor y passed'
  unfolding passed' deed
  stands' j y at (inl same) = let e : x' ≡ y = some_is (sym (slice_get_written actors k x x' here) ∙ (ap (slice_get (slice_set actors k x')) (sym same.1) ∙ at)) in subst (λ a. ActorStandsFor a passed') e (st.kept old.passed (old.stands k x here))
  stands' j y at (inr away) =
      let was : slice_get actors j ≡ Some y = sym (slice_get_beside actors k j x' away.1) ∙ at in
      stands_beside old.passed passed' y (fits_whole (end_at w) y (old.fits j y was)) (acts_alike j y was away.1)
      (λ n theirs. ap (λ c. old.passed.taken n ++ c) (take_still j y was away.1 n theirs) ∙ append-nil (old.passed.taken n))
      (λ n theirs. ap (λ c. old.passed.sent n ++ c) (put_still j y was away.1 n theirs) ∙ append-nil (old.passed.sent n))
      (old.stands j y was)

  owners' : part_of x' ≡ part_of x → IsWhole x' → (j : ℕ) (y : Actor) → slice_get (slice_set actors k x') j ≡ Some y → ((eqb j k ≡ true) × (j ≡ k)) ⊎ ((eqb j k ≡ false) × (j ≢ k)) → (r : Role) (n : ℕ) → ActorEnd y r n → (row : QueueRow) → slice_get rows n ≡ Some row → owner_of row r ≡ j
  owners' part whole j y at (inl same) r n theirs row rat = let e : y ≡ x' = some_is (sym at ∙ (ap (slice_get (slice_set actors k x')) same.1 ∙ slice_get_written actors k x x' here)) in old.owners k x here r n (same_part x x' r n part whole (subst (λ a. ActorEnd a r n) e theirs)) row rat ∙ sym same.1
  owners' part whole j y at (inr away) r n theirs row rat = old.owners j y (sym (slice_get_beside actors k j x' away.1) ∙ at) r n theirs row rat

  abbrev hostile : Hostiles
  hostile = hostiles (map part_of actors)

  abbrev wild : Wild
  wild = wild_in hostile rows

  abbrev drops : Drops
  drops = drops_in (map part_of actors)

  -- a calm actor makes no store
  plain : manner_of (part_of x) ≡ Calm → is_store e.op ≡ false
  plain calm =
      let turn : Turned (actor_round x) e (actor_round x') = turned_is x x' e calm turned in
      ap is_store turn.posted.posted.op ∙ plain_next turn.posted.post.state turn.posted.post.side turn.need

  -- and the queues of a hostile one aren't calm
  plain_there : is_calm hostile queue_row ≡ true → is_store e.op ≡ false
  plain_there calm = elim calls.sort.0 [
    | inl is ↦ plain is
    | inr r ↦ absurd (hostile_end hostile queue_row calls.role k has_end (rogue_hostile (map part_of actors) k x r.0 cast_here r.1) calm)
  ]

  unstored' : (n : ℕ) (row : QueueRow) → slice_get rows n ≡ Some row → is_calm hostile row ≡ true → ((eqb e.queue.0 n ≡ true) × (e.queue.0 ≡ n)) ⊎ ((eqb e.queue.0 n ≡ false) × (e.queue.0 ≢ n)) → (queue_at v n).indices.stored ≡ false
  unfolding deed
  unstored' n row at calm (inl same) =
      let row_is : row ≡ queue_row = some_is (sym at ∙ (ap (slice_get rows) (sym same.1) ∙ row_there)) in
      rw (st.happened.after_is, ← same.1, get_or-set_same w e.queue.0 (after (queue_at w e.queue.0) deed) no_queue st.happened.there)
      (stays (queue_at w e.queue.0) deed (plain_there (subst (λ r. is_calm hostile r ≡ true) row_is calm)) ∙ old.unstored e.queue.0 row (rw same.1 at) calm)
  unstored' n row at calm (inr away) =
      rw (st.happened.after_is, get_or-set_other w e.queue.0 n (after (queue_at w e.queue.0) deed) no_queue (λ h. away.1 (sym h)))
      (old.unstored n row at calm)

  -- it may make the call, and a store where it is hostile
  may' : MayCall hostile queue_row (role_of e.op) k
  may' = record {
    some = (calls.role, has_end);
    own = λ calm. elim calls.sort.1 [
      | inl same ↦ subst (λ r. owner_of queue_row r ≡ k) same has_end
      | inr store ↦ let no : true ≡ false = sym store ∙ plain (calm_there (map part_of actors) k x cast_here calm) in absurd cc
    ];
  }

  pub may_there : (row : QueueRow) → slice_get rows e.queue.0 ≡ Some row → MayCall hostile row (role_of e.op) k
  may_there row there = subst (λ r. MayCall hostile r (role_of e.op) k) (some_is (sym row_there ∙ there)) may'

  stores' : is_store e.op ≡ true → hostile k ≡ true
  stores' store = elim calls.sort.0 [
    | inl is ↦ let no : true ≡ false = sym store ∙ plain is in absurd cc
    | inr r ↦ rogue_hostile (map part_of actors) k x r.0 cast_here r.1
  ]

  legal' : LegalEntry hostile history rows journal (entry_of k e)
  unfolding deed
  legal' =
      let shown = old.queues e.queue.0 queue_row row_there in
      record {
        row = queue_row;
        there = row_there;
        legal = record {
          condition = shown_condition queue_row (queue_at w e.queue.0) (track history e.queue.0 journal) shown e.op st.happened.may.condition;
          stores = stores';
          finds = shown_finds queue_row (queue_at w e.queue.0) (track history e.queue.0 journal) shown e.op e.answer (finds (queue_at w e.queue.0) deed st.happened.may);
          tells = λ calm. shown_tells queue_row (queue_at w e.queue.0) (track history e.queue.0 journal) shown e.op e.answer (tells (queue_at w e.queue.0) deed st.happened.may (old.unstored e.queue.0 queue_row row_there calm) (plain_there calm));
          carries = shown_carries queue_row (queue_at w e.queue.0) (track history e.queue.0 journal) shown e.op (cargo_of deed) e.item st.happened.may.carries st.happened.may.item;
          caller = may';
        };
      }

  paced' : (j : ℕ) (y : Actor) → slice_get (slice_set actors k x') j ≡ Some y → HasCalmQueues hostile rows j → ((eqb j k ≡ true) × (j ≡ k)) ⊎ ((eqb j k ≡ false) × (j ≢ k)) → Paced (pendings history (journal ++ entry_of k e ∷ [])) (since drops j (journal ++ entry_of k e ∷ [])) (actor_round y)
  paced' j y at calm (inl same) =
      let is : x' ≡ y = some_is (sym (slice_get_written actors k x x' here) ∙ (ap (slice_get (slice_set actors k x')) (sym same.1) ∙ at)) in
      let has : HasCalmQueues hostile rows k = subst (HasCalmQueues hostile rows) same.1 calm in
      let manner : manner_of (part_of x) ≡ Calm = calm_there (map part_of actors) k x cast_here has.calm in
      let turn : Turned (actor_round x) e (actor_round x') = turned_is x x' e manner turned in
      let was = old.paced k x here has in
      let now = pace_own hostile drops history rows journal (entry_of k e) legal' has (actor_round x) (actor_round x') was turn (drops_own (map part_of actors) k (end_at w) x e (actor_round x') cast_here (old.fits k x here) turn) (runs manner) in
      subst (λ i. Paced (pendings history (journal ++ entry_of k e ∷ [])) (since drops i (journal ++ entry_of k e ∷ [])) (actor_round y)) (sym same.1) (subst (λ a. Paced (pendings history (journal ++ entry_of k e ∷ [])) (since drops k (journal ++ entry_of k e ∷ [])) (actor_round a)) is now)
  paced' j y at calm (inr away) =
      let was : slice_get actors j ≡ Some y = sym (slice_get_beside actors k j x' away.1) ∙ at in
      pace_beside hostile drops history rows journal (entry_of k e) legal' j calm (actor_round y) (λ h. away.1 (sym h)) (λ i p pat row rat. old.owners j y was (waiting_role p.side) p.queue (post_end y i p pat) row rat) (old.paced j y was calm)

  -- a hostile client goes on to have made the calls of its acts
  acts_own : (after : Rogue) → x' ≡ Kinds.Rogue after → (r : Rogue) → x ≡ Kinds.Rogue r → KeepsActs k after (journal ++ entry_of k e ∷ [])
  acts_own after is r was =
      let turn : ActorTurned (Kinds.Rogue r) e x' = subst (λ a. ActorTurned a e x') was turned in
      let acted = acted_is r e x' turn in
      let same : acted.0 ≡ after = rogue_is acted.0 after (sym acted.1 ∙ is) in
      subst (λ a. KeepsActs k a (journal ++ entry_of k e ∷ [])) same (acts_next k r acted.0 journal e acted.3 acted.2 (old.acts k r (here ∙ ap Some was)))

  acts' : part_of x' ≡ part_of x → (j : ℕ) (r : Rogue) → slice_get (slice_set actors k x') j ≡ Some (Kinds.Rogue r) → ((eqb j k ≡ true) × (j ≡ k)) ⊎ ((eqb j k ≡ false) × (j ≢ k)) → KeepsActs j r (journal ++ entry_of k e ∷ [])
  acts' part j r at (inl same) =
      let is : x' ≡ Kinds.Rogue r = some_is (sym (slice_get_written actors k x x' here) ∙ (ap (slice_get (slice_set actors k x')) (sym same.1) ∙ at)) in
      let was : (q : Rogue) × (x ≡ Kinds.Rogue q) = rogue_was x r (sym part ∙ ap part_of is) in
      subst (λ i. KeepsActs i r (journal ++ entry_of k e ∷ [])) (sym same.1) (acts_own r is was.0 was.1)
  acts' part j r at (inr away) = acts_beside j r journal (entry_of k e) (λ h. away.1 (sym h)) (old.acts j r (sym (slice_get_beside actors k j x' away.1) ∙ at))

  all_parts : part_of x' ≡ part_of x → map part_of (slice_set actors k x') ≡ map part_of actors
  all_parts part = map_same part_of actors k x x' here part

  works : AreAtWork (end_at w) rows actors old.passed
  works = record { fits = old.fits; stands = old.stands; hands_over = λ n. ((queue_at w n).entries, sym (old.stands_there n)); kinds = old.kinds }

  works' : FitsActor (end_at v) x' → AreAtWork (end_at v) rows (slice_set actors k x') passed'
  works' new = record {
    fits = λ j y at. fits' new j y at (eqb_tells j k);
    stands = λ j y at. stands' j y at (eqb_tells j k);
    hands_over = λ n. ((queue_at v n).entries, sym (there_after n (eqb_tells e.queue.0 n)));
    kinds = λ n row at j c there. kinds' n row at j c there (eqb_tells e.queue.0 n);
  }

  sends' : IsWired rows (map part_of actors) → FitsActor (end_at v) x' → part_of x' ≡ part_of x → ClientsSend rows (map part_of (slice_set actors k x')) passed'
  unfolding passed'
  sends' wired new part = sends_on (end_at w) (end_at v) rows actors (slice_set actors k x') old.passed deed wired (all_parts part) works old.sends (works' new)

  -- with the name of what it put, where names are kept
  abbrev pub names' : List Noted
  names' = names ++ notes_of wild (record { event = e; body = st.body })

  noted' : AreNoted wild names' passed'
  unfolding passed' deed
  noted' = notes_keep wild names old.passed deed old.noted

  -- nothing comes out of turn after it
  module _ (pools : List PoolRow) (in_place : IsInPlace rows pools (map part_of actors)) (split : (n : ℕ) (row : QueueRow) → slice_get rows n ≡ Some row → row.producer.0 ≡ row.consumer.0 → ⊥) (new : FitsActor (end_at v) x') (part : part_of x' ≡ part_of x) where
    abbrev actors' : List Actor
    actors' = slice_set actors k x'

    parts : map part_of actors' ≡ map part_of actors
    parts = all_parts part

    sent_good : ClientsSend rows (map part_of actors') passed'
    sent_good = sends' (wired_place rows pools (map part_of actors) in_place) new part

    noted_there : AreNoted (wild_in (hostiles (map part_of actors')) rows) names' passed'
    noted_there = subst (λ c. AreNoted (wild_in (hostiles c) rows) names' passed') (sym parts) noted'

    turns' : (j : ℕ) (y : Actor) → slice_get actors' j ≡ Some y → ToldInTurn (scene_of (map part_of actors')) (wild_in (hostiles (map part_of actors')) rows) (told_by names') y passed'
    turns' = told_turns (end_at v) rows pools actors' passed' (subst (IsInPlace rows pools) (sym parts) in_place) (works' new) sent_good (told_by names') (noted_tell (wild_in (hostiles (map part_of actors')) rows) names' passed' noted_there)

    abbrev after_ : List Entry
    after_ = journal ++ entry_of k e ∷ []

    -- what it puts are reads and writes, where it is a hostile client of the block class
    asks' : (place : PoolPlace) → IsPlaced rows place (map part_of actors) → RoguesAsk wild place passed'
    unfolding passed' deed
    asks' place placed = asks_on rows place actors old.passed deed k x x' (end_at w) placed in_place.seated here (old.fits k x here)
        (λ put. elim calls.sort.1 [
          | inl same ↦ subst (λ r. ActorEnd x r e.queue.0) (same ∙ ap role_of put) calls.own
          | inr store ↦ let no : true ≡ false = sym store ∙ ap is_store put in absurd cc
        ])
        (λ n row at j c there. kinds' n row at j c there (eqb_tells e.queue.0 n)) turned (old.asks place placed)

    -- and entries go on to carry what their items name
    carry' : (place : PoolPlace) → IsPlaced rows place (map part_of actors) → CastCarries rows place actors' (moved history after_) passed'
    unfolding passed' deed
    carry' place placed =
        call_carries rows place actors actors' old.passed deed k (moved history journal) (moved history after_) (record {
          placed = subst (IsPlaced rows place) (sym parts) placed;
          seated = subst (λ c. AreSeated (sheet (scene_of c)) rows c) (sym parts) in_place.seated;
          filled = subst (λ c. AreFilled (sheet (scene_of c)) rows c) (sym parts) in_place.filled;
          split = split;
          same = parts;
          before = end_at w;
          worked = works;
          ends = end_at v;
          works = works' new;
          was_told = all_told (end_at w) rows pools actors old.passed in_place works old.sends;
          told = all_told (end_at v) rows pools actors' passed' (subst (IsInPlace rows pools) (sym parts) in_place) (works' new) sent_good;
          asks = subst (λ c. RoguesAsk (wild_in (hostiles c) rows) place passed') (sym parts) (asks' place placed);
          there = x';
          here = slice_get_written actors k x x' here;
          own = elim calls.sort.1 [
            | inl same ↦ inl (same_part x' x (role_of e.op) e.queue.0 (sym part) (fits_whole (end_at w) x (old.fits k x here)) (subst (λ r. ActorEnd x r e.queue.0) same calls.own))
            | inr store ↦ inr store
          ];
        }) (record { taken = old.shows_taken; sent = old.shows_sent; noes = old.shows_noes }) (record { taken = shows_taken'; sent = shows_sent'; noes = shows_noes' }) (old.carry place placed)

    -- all goes on to hold
    pub step_holds : Holds history rows names' v actors' after_
    step_holds = record {
      passed = passed';
      stands_there = λ n. there_after n (eqb_tells e.queue.0 n);
      shows_taken = shows_taken';
      shows_sent = shows_sent';
      shows_noes = shows_noes';
      told = told_more history (map part_of actors) journal old.passed.calls (entry_of k e) old.told actors' parts passed' calls' (record { taken = shows_taken'; sent = shows_sent'; noes = shows_noes' }) (λ j y at. stands' j y at (eqb_tells j k));
      kinds = λ n row at j c there. kinds' n row at j c there (eqb_tells e.queue.0 n);
      size = size';
      queues = queues';
      fits = λ j y at. fits' new j y at (eqb_tells j k);
      stands = λ j y at. stands' j y at (eqb_tells j k);
      carry = λ place placed. carry' place (subst (IsPlaced rows place) parts placed);
      asks = λ place placed. subst (λ c. RoguesAsk (wild_in (hostiles c) rows) place passed') (sym parts) (asks' place (subst (IsPlaced rows place) parts placed));
      sends = sent_good;
      noted = noted_there;
      in_turn = turns';
      acts = λ j r at. acts' part j r at (eqb_tells j k);
      owners = λ j y at. owners' part (fits_whole (end_at v) x' new) j y at (eqb_tells j k);
      unstored = λ n row at calm. unstored' n row at (subst (λ c. is_calm (hostiles c) row ≡ true) parts calm) (eqb_tells e.queue.0 n);
      paced = λ j y at calm. subst (λ c. Paced (pendings history after_) (since (drops_in c) j after_) (actor_round y)) (sym parts) (paced' j y at (subst (λ c. HasCalmQueues (hostiles c) rows j) parts calm) (eqb_tells j k));
      peers = λ n row at r. rw length-set (old.peers n row at r);
      few = rw length-set old.few;
      legal = subst (λ c. LegalJournal (hostiles c) history rows after_) (sym parts) (EachFrom-append (LegalEntry hostile history rows) [] journal (entry_of k e) old.legal legal');
    }

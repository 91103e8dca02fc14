use Rattle.std.proofs.Common.{◌≡◌, ◌≢◌, ◌⊎◌, ◌<◌, ◌≤◌, ◌+◌, ◌==◌, ℕ, Bool, true, false, not, ◌&&◌, ◌||◌, Option, Some, None, List, [], ◌∷◌, ◌++◌, length, length-set, slice_get, slice_set, slice_index_or, map, subst, refl, sym, ap, ◌∙◌, arith, inl, inr}
use Rattle.std.proofs.lemmas.List.{length-map}
use Rattle.std.proofs.lemmas.Option.{slice_get_past, slice_get_read}
use Rattle.wire_core.specs.declared.names.PoolRow.{PoolRow}
use Rattle.wire_core.specs.declared.names.QueueRow.{QueueRow}
use Rattle.wire_core.specs.declared.names.Entry.{Entry}
use Rattle.wire_core.specs.declared.names.Event.{Event}
use Rattle.cargo_core.specs.Lists.{IsPrefix}
use Rattle.cargo_core.specs.declared.act.Word.{Word}
use Rattle.cargo_core.specs.declared.item.Body.{Body}
use Rattle.wire_core.specs.Ends.{Role, role_of, word_role}
use Rattle.wire_core.specs.Lists.{Stepped}
use Rattle.wire_core.specs.Queues.{Queue, Happens, end_at, is_pending, is_store}
use Rattle.wire_core.specs.Journal.{History, Hostiles, MayCall, EachMoment, EachFrom, LegalEntry, QueuesFlow, owner_of}
use Rattle.wire_core.proofs.Tracks.{EachFrom-append}
use Rattle.wire_core.proofs.Places.{slice_get_written}
use Rattle.wire_core.specs.Marks.{Drops, since, since_from, calls_at, AreFew, Brisk}
use Rattle.turn_kit.specs.Turns.{is_at_rest}
use Rattle.turn_kit.specs.Pace.{pendings, IsCalled}
use Rattle.turn_kit.proofs.Playing.{pace_few}
use Rattle.play_core.specs.Moved.{moved}
use Rattle.play_core.specs.Wants.{Want, Needful, all_settled}
use Rattle.play_core.specs.Sheets.{Sheet, needful}
use Rattle.play_core.specs.Names.{Noted, Wild, notes_of, told_by, wild_in}
use Rattle.play_core.proofs.Moments.{last_moment}
use Rattle.play_core.specs.Runs.{called_from, is_runnable, flags_from, places_from, runnable, reach_of}
use Rattle.play_core.proofs.Lists.{some_is, map_get, there_is}
use Rattle.play_core.proofs.Flags.{differs_at, differs_twice, flag_at, flags_length, reach_owns}
use Rattle.play_core.proofs.Tables.{others_run}
use Rattle.actor_set.specs.Parts.{Part}
use Rattle.actor_set.specs.Actors.{IsActorCall, FitsActor, ActorStandsFor, ActorTurned, actor_round, actor_rests, part_of}
use Rattle.actor_set.specs.declared.actor.Actor.{Actor}
use Rattle.play_core.specs.Manners.{Manner, Manners, Calm, Hostile, is_hostile}
use Rattle.actor_set.specs.Laws.Kinds.{scene_of, manner_of, manners, hostiles, idles}
use Rattle.actor_set.specs.Laws.Scenes.{LiesWithin, told_sheet}
use Rattle.cast_bound.specs.Dropping.{drops_in}
use Rattle.system_core.specs.Shows.{Crew, Setting, hostile_in, runs, NamesTell, RowsStand}
use Rattle.system_core.specs.Lawful.{IsFitted}
use Rattle.player_kit.specs.Runnings.{removed_if, with_option, with_if}
use Rattle.system_core.specs.Asking.{IsAsked, store_word}
use Rattle.system_core.specs.Systems.{Holds, PutTheirOwn}
use Rattle.system_core.proofs.Owned.{kept_on}
use Rattle.actor_set.proofs.LawsLemmas.Calm.{manner_at}
use Rattle.actor_set.proofs.LawsLemmas.Told.{told_own}
use Rattle.system_core.proofs.Growing.{each_stands, each_tells, runs_on, told_seats}
use Rattle.system_core.proofs.Hosts.{calls_at_end}
use Rattle.system_core.proofs.SystemStep.{step_holds, may_there, map_same, entry_of}
use Rattle.system_core.proofs.RunsNow.{idle_here, rests_here, rows_now, tells_now}
use Rattle.actor_set.proofs.LawsLemmas.PartEnds.{from_part, seat_end}
use Rattle.actor_set.proofs.LawsLemmas.Paces.{called_end}
use Rattle.actor_set.proofs.LawsLemmas.Rounds.{rests_is}
use Rattle.cast_law.specs.Pools.Owning.{IsKeptBeside}
use Rattle.cast_law.specs.Pools.Places.{IsInPlace, IsPlaced}
use Rattle.system_core.proofs.Fitting.{fitted_place}
use Rattle.wire_core.proofs.Sinces.{eqb_apart}
use Rattle.wire_core.specs.declared.names.Op.{Op}
use Rattle.wire_core.specs.declared.names.Op.TheVariants as Do
use Rattle.player_kit.proofs.Places.{places_kept, places_so, places_below, places_few}
use Rattle.player_kit.proofs.Listing.{not_not, get_case, cleared}

-- the wants and the flags of a cast, by these names
module _ (history : History) (rows : List QueueRow) (names : List Noted) (cast : List Part) where
  abbrev manner : Manners
  manner = manners cast

  abbrev pub told : Part → Sheet
  told = told_sheet (scene_of cast) (wild_in (hostiles cast) rows) (told_by names)

  abbrev wanted : Part → List Entry → List Want
  wanted p j = (told p).wants (moved history j)

  abbrev all_wanted : List Entry → Needful
  all_wanted j = needful told cast (moved history j)

  abbrev pub flags : List Entry → List Bool
  flags j = flags_from manner 0 history rows (all_wanted j) j

  pub flags_count : (j : List Entry) → length (flags j) ≡ length cast
  flags_count j = flags_length manner 0 history rows (all_wanted j) j ∙ length-map cast (λ p. wanted p j)

  -- a runnable actor is there
  pub runs_below : (j : List Entry) (place k : ℕ) → slice_get (runnable manner history rows (all_wanted j) j) place ≡ Some k → k < length cast
  runs_below j place k at =
      let h = places_below 0 place k (flags j) at in
      let lt : k < 0 + length (flags j) = h.1 in
      let n : length (flags j) ≡ length cast = flags_count j in
      omega arith

  flag_of : (j : List Entry) (k : ℕ) (p : Part) → slice_get cast k ≡ Some p → slice_get (flags j) k ≡ Some (is_runnable (manner k) k (wanted p j) history rows j)
  flag_of j k p at = flag_at manner 0 history rows (all_wanted j) j k k (wanted p j) (omega arith) (map_get (λ p. wanted p j) cast k p at)

  -- and it is so by its part
  pub run_flag : (j : List Entry) (place k : ℕ) (p : Part) → slice_get cast k ≡ Some p → slice_get (runnable manner history rows (all_wanted j) j) place ≡ Some k → is_runnable (manner_of p) k (wanted p j) history rows j ≡ true
  run_flag j place k p part at =
      let so = places_so 0 k k place (flags j) (omega arith) at in
      subst (λ m. is_runnable m k (wanted p j) history rows j ≡ true) (manner_at cast k p part) (some_is (sym (flag_of j k p part) ∙ so))

  -- there is room for them
  pub running_few : (room : ℕ) → length cast ≤ room → (j : List Entry) → length (runnable manner history rows (all_wanted j) j) ≤ room
  running_few room le j = let f : length (places_from 0 (flags j)) ≤ length (flags j) = places_few 0 (flags j) in let g : length (flags j) ≡ length cast = flags_count j in omega arith

-- actor k, which is x, makes the call of event e on a queue of this row, and is then x'; the flags
-- are by the names that are kept then
module _ (history : History) (rows : List QueueRow) (names : List Noted) (w v : List Queue) (actors : List Actor) (journal : List Entry) (k : ℕ) (x x' : Actor) (e : Event) (row : QueueRow) (here : slice_get actors k ≡ Some x) (old : Holds history rows names w actors journal) (pools : List PoolRow) (in_place : IsInPlace rows pools (map part_of actors)) (split : (n : ℕ) (row_ : QueueRow) → slice_get rows n ≡ Some row_ → row_.producer.0 ≡ row_.consumer.0 → ⊥) (call : IsActorCall x e) (st : Stepped ActorStandsFor Happens w v x x' e) (turned : ActorTurned x e x')
    (pressed : manner_of (part_of x) ≡ Calm → is_at_rest (actor_round x) ≡ true → IsCalled (pendings history journal) (actor_round x).posts) (fits : FitsActor (end_at v) x') (part : part_of x' ≡ part_of x) (there : slice_get rows e.queue.0 ≡ Some row) where
  abbrev cast : List Part
  cast = map part_of actors

  abbrev pub wild : Wild
  wild = wild_in (hostiles cast) rows

  abbrev pub names' : List Noted
  names' = names ++ notes_of wild (record { event = e; body = st.body })

  abbrev after_ : List Entry
  after_ = journal ++ entry_of k e ∷ []

  abbrev flag : List Entry → List Bool
  flag j = flags history rows names' cast j

  pub then_holds : Holds history rows names' v (slice_set actors k x') after_
  then_holds = step_holds history rows names w v actors journal k x x' e here old call st turned pressed pools in_place split fits part

  parts : map part_of (slice_set actors k x') ≡ cast
  parts = map_same part_of actors k x x' here part

  may : MayCall (hostiles cast) row (role_of e.op) k
  may = may_there history rows names w v actors journal k x x' e here old call st turned pressed row there

  cast_here : slice_get cast k ≡ Some (part_of x)
  cast_here = map_get part_of actors k x here

  others : (i : ℕ) → i ≢ k → (reach_of e.op row k ≡ Some i → ⊥) → slice_get (flag after_) i ≡ slice_get (flag journal) i
  others i away quiet = others_case (get_case cast i)
    where
      others_case : ((p : Part) × (slice_get cast i ≡ Some p)) ⊎ (length cast ≤ i) → slice_get (flag after_) i ≡ slice_get (flag journal) i
      others_case (inl p) =
          flag_of history rows names' cast after_ i p.0 p.1
          ∙ (ap Some (others_run (told history rows names' cast) (told_own (scene_of cast) wild (told_by names')) (manners cast) history rows cast (told_seats (scene_of cast) wild (told_by names') rows cast in_place.seated) journal k e row there may i p.0 p.1 away quiet)
          ∙ sym (flag_of history rows names' cast journal i p.0 p.1))
      others_case (inr past) =
          slice_get_past (flag after_) i (let n = flags_count history rows names' cast after_ in omega arith)
          ∙ sym (slice_get_past (flag journal) i (let n = flags_count history rows names' cast journal in omega arith))

  lengths : length (flag after_) ≡ length (flag journal)
  lengths = flags_count history rows names' cast after_ ∙ sym (flags_count history rows names' cast journal)

  -- an actor that is asked says whether it is runnable
  asked_then : (m : ℕ) (z : Actor) (runs : Bool) → slice_get (slice_set actors k x') m ≡ Some z → runs ≡ not (idles (manner_of (part_of z)) (actor_rests z) (is_pending m v)) → slice_get (flag after_) m ≡ Some runs
  asked_then m z runs at is =
      let there : slice_get cast m ≡ Some (part_of z) = ap (λ ps. slice_get ps m) (sym parts) ∙ map_get part_of (slice_set actors k x') m z at in
      let run : Manner → Bool = λ n. is_runnable n m (wanted history rows names' cast (part_of z) after_) history rows after_ in
      flag_of history rows names' cast after_ m (part_of z) there
      ∙ ap Some (ap run (manner_at cast m (part_of z) there)
      ∙ (not_not (run (manner_of (part_of z)))
      ∙ (ap not (sym (idle_here cast history rows names' v (slice_set actors k x') after_ then_holds parts m z at)) ∙ sym is)))

  caller_then : (idle : Bool) → idle ≡ idles (manner_of (part_of x')) (actor_rests x') (is_pending k v) → slice_get (flag after_) k ≡ Some (not idle)
  caller_then idle is = asked_then k x' (not idle) (slice_get_written actors k x x' here) (ap not is)

  rung_below : (m : ℕ) → reach_of e.op row k ≡ Some m → m < length cast
  rung_below m rung =
      let o = reach_owns e.op row k m rung in
      let lt : m < length actors = subst (λ n. n < length actors) o.1 (old.peers e.queue.0 row there o.0) in
      subst (λ n. m < n) (sym (length-map actors part_of)) lt

  -- the runnable actors after the call
  pub running_then : (rung : Option ℕ) (runs idle : Bool) (place : ℕ) → reach_of e.op row k ≡ rung → IsAsked (slice_set actors k x') v rung runs → idle ≡ idles (manner_of (part_of x')) (actor_rests x') (is_pending k v) → slice_get (places_from 0 (flag journal)) place ≡ Some k
      → places_from 0 (flag after_) ≡ with_option rung runs (removed_if idle (places_from 0 (flag journal)) place)
  running_then None runs idle place rung asked is at =
      ap (places_from 0) (differs_at (flag journal) (flag after_) k (not idle) _ lengths (flag_of history rows names' cast journal k (part_of x) cast_here) (caller_then idle is) (λ i away. others i away (λ h. let no : None ≡ Some i = sym rung ∙ h in cc)))
      ∙ cleared (flag journal) k place idle at
  running_then (Some m) runs idle place rung asked is at =
      let lt : m < length cast = rung_below m rung in
      let n : length (flag journal) ≡ length cast = flags_count history rows names' cast journal in
      let d = there_is (flag journal) m (omega arith) in
      let few : length (slice_set (flag journal) k (not idle)) ≡ length (flag journal) = length-set (flag journal) k (not idle) in
      let z = asked m refl in
      ap (places_from 0) (differs_twice (flag journal) (flag after_) k m (not idle) _ d.0 runs lengths (flag_of history rows names' cast journal k (part_of x) cast_here) d.1 (caller_then idle is) (asked_then m z.0 runs z.1 z.2) (λ i away apart. others i away (λ h. apart (some_is (sym h ∙ rung)))))
      ∙ (places_kept runs m (slice_set (flag journal) k (not idle)) (omega arith)
      ∙ ap (with_if runs m) (cleared (flag journal) k place idle at))

-- who is rung is one of the actors
pub rung_there : (history : History) (rows : List QueueRow) (names : List Noted) (w : List Queue) (actors : List Actor) (journal : List Entry) → Holds history rows names w actors journal → (k : ℕ) (x : Actor) (e : Event) (row : QueueRow) (m : ℕ) → e.queue.0 < length w → row ≡ slice_index_or rows e.queue.0 row → reach_of e.op row k ≡ Some m → m < length (slice_set actors k x)
rung_there history rows names w actors journal old k x e row m within is rung =
    let there : slice_get rows e.queue.0 ≡ Some row = slice_get_read rows _ e.queue.0 row refl (subst (λ n. e.queue.0 < n) old.size within) is in
    let o = reach_owns e.op row k m rung in
    let lt : m < length actors = subst (λ n. n < length actors) o.1 (old.peers e.queue.0 row there o.0) in
    rw length-set lt

-- who makes a call that is no store owns the end at which it is made
pub caller_owns : (history : History) (rows : List QueueRow) (names : List Noted) (w : List Queue) (actors : List Actor) (journal : List Entry) → Holds history rows names w actors journal → (k : ℕ) (x : Actor) (e : Event) (row : QueueRow) → k < length actors → e.queue.0 < length w → x ≡ slice_index_or actors k x → row ≡ slice_index_or rows e.queue.0 row → IsActorCall x e → is_store e.op ≡ false → owner_of row (role_of e.op) ≡ k
caller_owns history rows names w actors journal old k x e row below within x_is row_is call plain =
    let here : slice_get actors k ≡ Some x = slice_get_read actors _ k x refl below x_is in
    let there : slice_get rows e.queue.0 ≡ Some row = slice_get_read rows _ e.queue.0 row refl (subst (λ n. e.queue.0 < n) old.size within) row_is in
    let calls = calls_at_end x e call in
    elim calls.sort.1 [
      | inl same ↦ subst (λ r. owner_of row r ≡ k) same (old.owners k x here calls.role e.queue.0 calls.own row there)
      | inr store ↦ let no : true ≡ false = sym store ∙ plain in absurd cc
    ]

-- an actor isn't runnable where it rests and is hostile or isn't called
pub idles_so : (m : Manner) (rests called : Bool) → (rests && (is_hostile m || not called)) ≡ idles m rests called
idles_so Calm rests called = refl
idles_so (Hostile done) true called = refl
idles_so (Hostile done) false called = refl

-- the word of a store is that of the end at which it is made, and all else is no store
pub store_role : (op : Op) (word : Word) → store_word op ≡ Some word → role_of op ≡ word_role word
store_role (Do.Store w v) word is = ap word_role (some_is is)
store_role Do.See word is = cc
store_role Do.Room word is = cc
store_role Do.Take word is = cc
store_role Do.Put word is = cc
store_role (Do.Ask s) word is = cc
store_role (Do.Waive s) word is = cc
store_role (Do.Wake s) word is = cc
store_role (Do.Wanted s) word is = cc
store_role (Do.Settle s) word is = cc
store_role (Do.Ring s) word is = cc

pub no_store : (op : Op) → store_word op ≡ None → is_store op ≡ false
no_store (Do.Store w v) is = cc
no_store Do.See is = refl
no_store Do.Room is = refl
no_store Do.Take is = refl
no_store Do.Put is = refl
no_store (Do.Ask s) is = refl
no_store (Do.Waive s) is = refl
no_store (Do.Wake s) is = refl
no_store (Do.Wanted s) is = refl
no_store (Do.Settle s) is = refl
no_store (Do.Ring s) is = refl

called_so : (a b : Bool) → a ≡ true → (not a || b) ≡ true → b ≡ true
called_so true b e g = g
called_so false b e g = cc

-- an actor that is runnable at rest and isn't hostile has an end where a notification is pending
module _ (history : History) (rows : List QueueRow) (names : List Noted) (pools : List PoolRow) (net serial blk : Crew) (w : List Queue) (actors : List Actor) (journal : List Entry) (k : ℕ) (x : Actor) (place : ℕ) where
  abbrev now_set : Setting
  now_set = record { history = history; rows = rows; pools = pools; cast = map part_of actors; scene = scene_of (map part_of actors); names = names; net = net; serial = serial; blk = blk }

  runs_called : IsFitted now_set → Holds history rows names w actors journal → slice_get actors k ≡ Some x → slice_get (runs now_set journal) place ≡ Some k → manner_of (part_of x) ≡ Calm → is_at_rest (actor_round x) ≡ true → IsCalled (pendings history journal) (actor_round x).posts
  runs_called fitted old here at calm rest =
      let part : slice_get (map part_of actors) k ≡ Some (part_of x) = map_get part_of actors k x here in
      let flag : is_runnable Calm k (wanted history rows names (map part_of actors) (part_of x) journal) history rows journal ≡ true = subst (λ m. is_runnable m k (wanted history rows names (map part_of actors) (part_of x) journal) history rows journal ≡ true) calm (run_flag history rows names (map part_of actors) journal place k (part_of x) part at) in
      let settled : all_settled history journal (wanted history rows names (map part_of actors) (part_of x) journal) ≡ true = sym (rests_here (map part_of actors) history rows names w actors journal old refl k x here calm) ∙ (rests_is x calm ∙ rest) in
      called_end k x history rows journal calm
      (λ n row there r owner. let g = fitted.ends k (part_of x) part (record { queue = n; role = r }) (row, there, owner) in from_part x r n (seat_end (scene_of (map part_of actors)) (part_of x) g.0 (record { queue = n; role = r }) g.1))
      (called_so (all_settled history journal (wanted history rows names (map part_of actors) (part_of x) journal)) (called_from k 0 history rows journal) settled flag)

-- who isn't there made no calls
nobody_since : (drops : Drops) (hostile : Hostiles) (history : History) (rows : List QueueRow) (actors a : ℕ) (before es : List Entry) → ((n : ℕ) (row : QueueRow) → slice_get rows n ≡ Some row → (r : Role) → owner_of row r < actors) → actors ≤ a → EachFrom (LegalEntry hostile history rows) before es → since_from drops a [] es ≡ []
nobody_since drops hostile history rows actors a before [] peers le l = refl
nobody_since drops hostile history rows actors a before (e ∷ es) peers le l =
    let lt : e.actor.0 < actors = subst (λ n. n < actors) l.0.legal.caller.some.1 (peers e.event.queue.0 l.0.row l.0.there l.0.legal.caller.some.0) in
    let off : (e.actor.0 == a) ≡ false = eqb_apart e.actor.0 a (λ h. absurd (omega (arith, lt, le, h))) in
    rw off (nobody_since drops hostile history rows actors a (before ++ e ∷ []) es peers le l.1)

-- each actor made few calls since its last mark
few_holds : (history : History) (rows : List QueueRow) (names : List Noted) (w : List Queue) (actors : List Actor) (journal : List Entry) → Holds history rows names w actors journal → AreFew (hostiles (map part_of actors)) rows (drops_in (map part_of actors)) journal
few_holds history rows names w actors journal h a calm r n = elim (get_case actors a) [
  | inl y ↦ pace_few (pendings history journal) (since (drops_in (map part_of actors)) a journal) (actor_round y.0) (h.paced a y.0 y.1 calm) r n
  | inr past ↦ let none : since (drops_in (map part_of actors)) a journal ≡ [] = nobody_since (drops_in (map part_of actors)) (hostiles (map part_of actors)) history rows (length actors) a [] journal h.peers past h.legal in subst (λ es. calls_at r n es ≤ 8) (sym none) (omega arith)
]

-- a system after a step: all goes on to hold, and the runnable actors are those of this list
pub record StepThen (setting : Setting) (v : List Queue) (actors : List Actor) (journal : List Entry) (list : List ℕ) (room : ℕ) : Type 0 where
  pub holds : Holds setting.history setting.rows setting.names v actors journal
  pub cast_is : map part_of actors ≡ setting.cast
  pub rows_hold : EachMoment (RowsStand setting) journal
  pub names_tell : EachMoment (NamesTell setting) journal
  pub brisk : Brisk (hostile_in setting) setting.rows (drops_in setting.cast) journal
  pub own : PutTheirOwn setting journal
  pub running : list ≡ runs setting journal
  pub room_is : length actors ≤ room
  pub few : length list ≤ room

module _ (history : History) (rows : List QueueRow) (names : List Noted) (pools : List PoolRow) (net serial blk : Crew) (w v : List Queue) (actors : List Actor) (journal : List Entry) (k : ℕ) (x x' y : Actor) (e : Event) (row : QueueRow) (rung : Option ℕ) (woken idle : Bool) (place : ℕ) (list : List ℕ) (room : ℕ) where
  abbrev setting : Setting
  setting = record { history = history; rows = rows; pools = pools; cast = map part_of actors; scene = scene_of (map part_of actors); names = names; net = net; serial = serial; blk = blk }

  abbrev notes : Option Body → List Noted
  notes body = notes_of (wild_in (hostiles (map part_of actors)) rows) (record { event = e; body = body })

  pub system_then : IsFitted setting → Holds history rows names w actors journal → EachMoment (RowsStand setting) journal → EachMoment (NamesTell setting) journal → list ≡ runs setting journal → length actors ≤ room → Brisk (hostile_in setting) rows (drops_in (map part_of actors)) journal → QueuesFlow history rows [] → PutTheirOwn setting journal
      → slice_get list place ≡ Some k → x ≡ slice_index_or actors k x → IsActorCall x e → (st : Stepped ActorStandsFor Happens w v x x' e) → ActorTurned x e x' → FitsActor (end_at v) x' → part_of x' ≡ part_of x
      → y ≡ slice_index_or (slice_set actors k x') k y → row ≡ slice_index_or rows e.queue.0 row → idle ≡ idles (manner_of (part_of y)) (actor_rests y) (is_pending k v) → rung ≡ reach_of e.op row k → IsAsked (slice_set actors k x') v rung woken
      → StepThen (record setting { names = names ++ notes st.body }) v (slice_set actors k x') (journal ++ entry_of k e ∷ []) (with_option rung woken (removed_if idle list place)) room
  system_then fitted old rows_old tell_old running le brisk flows owned at x_is own st turned fits part y_is row_is idle_is rung_is asked =
      let ns : List Noted = names ++ notes st.body in
      let later : Setting = record setting { names = ns } in
      let begins : IsPrefix names ns = (notes st.body, refl) in
      let at' : slice_get (runs setting journal) place ≡ Some k = rw (← running) at in
      let running' : list ≡ runs later journal = running ∙ runs_on setting ns begins journal (last_moment (NamesTell setting) journal tell_old) in
      let at_later : slice_get (runs later journal) place ≡ Some k = rw (← running') at in
      let size : length (map part_of actors) ≡ length actors = length-map actors part_of in
      let below : k < length (map part_of actors) = runs_below history rows names (map part_of actors) journal place k at' in
      let lt : k < length actors = omega (arith, below, size) in
      let here : slice_get actors k ≡ Some x = slice_get_read actors _ k x refl lt x_is in
      let there : slice_get rows e.queue.0 ≡ Some row = slice_get_read rows _ e.queue.0 row refl (subst (λ n. e.queue.0 < n) old.size st.happened.there) row_is in
      let pressed = runs_called history rows names pools net serial blk w actors journal k x place fitted old here at' in
      let in_place = fitted_place setting fitted in
      let new = then_holds history rows names w v actors journal k x x' e row here old pools in_place fitted.split own st turned pressed fits part there in
      let cast_is = map_same part_of actors k x x' here part in
      let y_same : y ≡ x' = some_is (sym (slice_get_read (slice_set actors k x') _ k y refl (subst (λ n. k < n) (sym (length-set actors k x')) lt) y_is) ∙ slice_get_written actors k x x' here) in
      let then_is = running_then history rows names w v actors journal k x x' e row here old pools in_place fitted.split own st turned pressed fits part there rung woken idle place (sym rung_is) asked (idle_is ∙ ap (λ a. idles (manner_of (part_of a)) (actor_rests a) (is_pending k v)) y_same) at_later in
      let list_is : with_option rung woken (removed_if idle list place) ≡ runs later (journal ++ entry_of k e ∷ []) = ap (λ l. with_option rung woken (removed_if idle l place)) running' ∙ sym then_is in
      let rows_next : RowsStand later (journal ++ entry_of k e ∷ []) = rows_now (map part_of actors) history rows ns v (slice_set actors k x') (journal ++ entry_of k e ∷ []) new cast_is in
      let tell_next : NamesTell later (journal ++ entry_of k e ∷ []) = subst (λ c. (j : ℕ) (p : Part) → slice_get c j ≡ Some p → LiesWithin (wild_in (hostiles c) rows) (told_by ns) p (moved history (journal ++ entry_of k e ∷ []))) cast_is (tells_now history rows ns v (slice_set actors k x') (journal ++ entry_of k e ∷ []) new pools (subst (IsInPlace rows pools) (sym cast_is) in_place)) in
      let rows_then = each_stands setting ns begins journal tell_old rows_old in
      let tell_then = each_tells setting ns begins journal tell_old in
      record {
        holds = new;
        cast_is = cast_is;
        rows_hold = (rows_then.0, EachFrom-append (λ b d. RowsStand later (b ++ d ∷ [])) [] journal (entry_of k e) rows_then.1 rows_next);
        names_tell = (tell_then.0, EachFrom-append (λ b d. NamesTell later (b ++ d ∷ [])) [] journal (entry_of k e) tell_then.1 tell_next);
        brisk = (brisk.0, EachFrom-append (λ b d. AreFew (hostile_in setting) rows (drops_in (map part_of actors)) (b ++ d ∷ [])) [] journal (entry_of k e) brisk.1 (subst (λ cast. AreFew (hostiles cast) rows (drops_in cast) (journal ++ entry_of k e ∷ [])) cast_is (few_holds history rows ns v (slice_set actors k x') (journal ++ entry_of k e ∷ []) new)));
        own = λ there placed. subst (λ c. EachMoment (IsKeptBeside history rows there c) (journal ++ entry_of k e ∷ [])) cast_is
            (kept_on history rows ns v (slice_set actors k x') journal (entry_of k e) new pools (subst (IsInPlace rows pools) (sym cast_is) in_place) flows there (subst (IsPlaced rows there) (sym cast_is) placed)
            (subst (λ c. EachMoment (IsKeptBeside history rows there c) journal) (sym cast_is) (owned there placed)));
        running = list_is;
        room_is = rw length-set le;
        few = rw list_is (running_few history rows ns (map part_of actors) room (omega (arith, le, size)) (journal ++ entry_of k e ∷ []));
      }

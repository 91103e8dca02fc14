use Rattle.std.proofs.Common.{◌≡◌, ◌≢◌, ◌⊎◌, ◌<◌, ◌≤◌, ◌+◌, ◌-◌, take, Result, Ok, Err, OnOk, OnErr, ◌==◌, ◌||◌, ℕ, Bool, true, not, if◌then◌else◌, Option, Some, None, List, [], ◌∷◌, ◌++◌, length, length-set, slice_get, slice_set, slice_index_or, subst, refl, sym, ap, ◌∙◌, arith, inl, inr, zero, suc}
use Rattle.cargo_core.specs.declared.memory.Memory.{Memory}
use Rattle.std.proofs.lemmas.Option.{slice_get_past, slice_get_read}
use Rattle.std.proofs.lemmas.Bool.{eq-eqb}
use Rattle.wire_core.specs.declared.names.QueueRow.{QueueRow}
use Rattle.wire_core.specs.declared.names.Entry.{Entry}
use Rattle.wire_core.specs.declared.names.Event.{Event}
use Rattle.wire_core.specs.declared.names.Side.TheVariants.{Forward, Backward}
use Rattle.wire_core.specs.declared.names.Op.{Op}
use Rattle.wire_core.specs.declared.names.Op.TheVariants as Do
use Rattle.wire_core.specs.Deeds.{Deed}
use Rattle.wire_core.specs.Ends.{Role, Consumer, Producer, role_of}
use Rattle.wire_core.specs.Lists.{Passed, with_deed}
use Rattle.wire_core.specs.Queues.{Queue, Happens, end_at, starts, is_pending}
use Rattle.wire_core.specs.Journal.{History, MayCall, start_history, nobody, owner_of}
use Rattle.wire_core.proofs.Places.{slice_get_written, slice_get_beside}
use Rattle.turn_kit.specs.Turns.{is_at_rest}
use Rattle.play_core.specs.Manners.{Calm}
use Rattle.play_core.specs.Runs.{places_from, rung_at, reach_of}
use Rattle.play_core.proofs.Lists.{some_is, there_is, there_below}
use Rattle.play_core.proofs.Flags.{differs_at, differs_twice, reach_owns, runnable_apart}
use Rattle.small_system.specs.Meanings.{Means, Steps, Acts, IsFit, Lawful}
use Rattle.small_system.specs.Tales.{Moment, Turn, is_runnable, flags_in, running_in, start_of, moment_after, IsTale, after_tale, entry_of}
use Rattle.small_system.specs.Standing.{Begins, Holds}
use Rattle.small_system.specs.Shows.{Shown, shown, IsTold, IsAsked, StepsAt}
use Rattle.player_kit.specs.Runnings.{Ascending, removed_if, with_option, with_if}
use Rattle.small_system.specs.Inside.{IsSmall}
use Rattle.player_kit.proofs.Places.{places_kept, places_so, places_below, places_few}
use Rattle.small_system.proofs.Posts.{own_call}
use Rattle.small_system.proofs.Step.{step_holds, called_here}
use Rattle.small_system.proofs.Telling.{after_join, tale_join, journal_join, stands_now}
use Rattle.player_kit.proofs.Listing.{get_case, not_not, cleared}

-- After a step the kept list is the runnable actors.

-- what is said of the actor at a place
pub flag_at : {A : Type 0} (m : Means A) (w : List Queue) (k i n : ℕ) (xs : List A) (x : A) → n ≡ k + i → slice_get xs i ≡ Some x → slice_get (flags_in m w k xs) i ≡ Some (is_runnable m w n x)
flag_at m w k i n [] x e at = cc
flag_at m w k zero n (y ∷ xs) x e at = let f : k ≡ n = omega arith in let g : y ≡ x = some_is at in rw (f, g) refl
flag_at m w k (suc i) n (y ∷ xs) x e at = flag_at m w (k + 1) i n xs x (omega arith) at

pub flags_count : {A : Type 0} (m : Means A) (w : List Queue) (k : ℕ) (xs : List A) → length (flags_in m w k xs) ≡ length xs
flags_count m w k [] = refl
flags_count m w k (x ∷ xs) = ap suc (flags_count m w (k + 1) xs)

-- a journal whose last entry is written anew, and one without it

last_set : {X : Type 0} (xs : List X) (a b : X) → slice_set (xs ++ a ∷ []) (length xs) b ≡ xs ++ b ∷ []
last_set [] a b = refl
last_set (x ∷ xs) a b = ap (λ ys. x ∷ ys) (last_set xs a b)

last_at : {X : Type 0} (xs : List X) (a d : X) → slice_index_or (xs ++ a ∷ []) (length xs) d ≡ a
last_at [] a d = refl
last_at (x ∷ xs) a d = last_at xs a d

last_off : {X : Type 0} (xs : List X) (a : X) → take (length xs) (xs ++ a ∷ []) ≡ xs
last_off [] a = refl
last_off (x ∷ xs) a = ap (λ ys. x ∷ ys) (last_off xs a)

last_long : {X : Type 0} (xs : List X) (a : X) → length (xs ++ a ∷ []) ≡ length xs + 1
last_long [] a = refl
last_long (x ∷ xs) a = let h = last_long xs a in omega (arith, h)

-- the entry of actor k, of which the event is yet to be written
abbrev pub entry_by : (k : ℕ) → Event → Entry
entry_by k e = record { actor = record { 0 = k }; event = e }

module _ (journal pushed : List Entry) (last k : ℕ) (place : Event) (now : Entry) (e : Event) (p : pushed ≡ journal ++ entry_by k place ∷ []) (l : last ≡ length journal) (now_is : now ≡ slice_index_or pushed last now) where
  seam : slice_set pushed last (record now { event = e }) ≡ slice_set (journal ++ entry_by k place ∷ []) (length journal) (record now { event = e })
  seam = ap (λ xs. slice_set xs last (record now { event = e })) p ∙ ap (λ i. slice_set (journal ++ entry_by k place ∷ []) i (record now { event = e })) l

  now_by : now ≡ entry_by k place
  now_by = now_is ∙ (ap (λ xs. slice_index_or xs last now) p ∙ (ap (λ i. slice_index_or (journal ++ entry_by k place ∷ []) i now) l ∙ last_at journal (entry_by k place) now))

  pub written_last : slice_set pushed last (record now { event = e }) ≡ journal ++ entry_by k e ∷ []
  written_last = seam ∙ (last_set journal (entry_by k place) (record now { event = e }) ∙ ap (λ (x : Entry). journal ++ record x { event = e } ∷ []) now_by)

  pub longer : 0 < length (slice_set pushed last (record now { event = e }))
  longer =
      let a = ap length written_last in
      let b = last_long journal (entry_by k e) in
      omega (arith, a, b)

  pub taken_back : take (length (slice_set pushed last (record now { event = e })) - 1) (slice_set pushed last (record now { event = e })) ≡ journal
  taken_back =
      let b = last_long journal (entry_by k e) in
      let many : length (journal ++ entry_by k e ∷ []) - 1 ≡ length journal = omega (arith, b) in
      ap (λ (xs : List Entry). take (length xs - 1) xs) written_last ∙ (ap (λ n. take n (journal ++ entry_by k e ∷ [])) many ∙ last_off journal (entry_by k e))

-- what is so after a success, and after an error

pub after_ok : (P : Type 0) (r : Result (Unit {0}) Memory) (t : Unit {0}) → r ≡ Ok t → OnOk r P → P
after_ok P r t is h = subst (λ q. OnOk q P) is h

pub after_err : (P : Type 0) (r : Result (Unit {0}) Memory) (e : Memory) → r ≡ Err e → OnErr r P → P
after_err P r e is h = subst (λ q. OnErr q P) is h

-- whom a call at an end of its own reaches beside its caller is rung
owners_apart : (row : QueueRow) (k i : ℕ) (r : Role) → owner_of row r ≡ k → i ≢ k → owner_of row r ≡ i → ⊥
owners_apart row k i r own away is = away (sym is ∙ own)

reach_none : (row : QueueRow) (o : Op) (k i : ℕ) → owner_of row (role_of o) ≡ k → (if not (owner_of row (role_of o) == k) then Some i else None) ≡ None
reach_none row o k i own = rw (eq-eqb (owner_of row (role_of o)) k own) refl

reach_rung : (o : Op) (row : QueueRow) (k i : ℕ) → owner_of row (role_of o) ≡ k → i ≢ k → reach_of o row k ≡ Some i → rung_at o row ≡ Some i
reach_rung (Do.Ring Forward) row k i own away h = by (reach_owns (Do.Ring Forward) row k i h)
  where
    by : (r : Role) × (owner_of row r ≡ i) → rung_at (Do.Ring Forward) row ≡ Some i
    by (Consumer, is) = ap Some is
    by (Producer, is) = absurd (away (sym is ∙ own))
reach_rung (Do.Ring Backward) row k i own away h = by (reach_owns (Do.Ring Backward) row k i h)
  where
    by : (r : Role) × (owner_of row r ≡ i) → rung_at (Do.Ring Backward) row ≡ Some i
    by (Producer, is) = ap Some is
    by (Consumer, is) = absurd (away (sym is ∙ own))
reach_rung Do.See row k i own away h = let no : None ≡ Some i = sym (reach_none row Do.See k _ own) ∙ h in cc
reach_rung Do.Room row k i own away h = let no : None ≡ Some i = sym (reach_none row Do.Room k _ own) ∙ h in cc
reach_rung Do.Take row k i own away h = let no : None ≡ Some i = sym (reach_none row Do.Take k _ own) ∙ h in cc
reach_rung Do.Put row k i own away h = let no : None ≡ Some i = sym (reach_none row Do.Put k _ own) ∙ h in cc
reach_rung (Do.Ask s) row k i own away h = let no : None ≡ Some i = sym (reach_none row (Do.Ask s) k _ own) ∙ h in cc
reach_rung (Do.Waive s) row k i own away h = let no : None ≡ Some i = sym (reach_none row (Do.Waive s) k _ own) ∙ h in cc
reach_rung (Do.Wake s) row k i own away h = let no : None ≡ Some i = sym (reach_none row (Do.Wake s) k _ own) ∙ h in cc
reach_rung (Do.Wanted s) row k i own away h = let no : None ≡ Some i = sym (reach_none row (Do.Wanted s) k _ own) ∙ h in cc
reach_rung (Do.Settle s) row k i own away h = let no : None ≡ Some i = sym (reach_none row (Do.Settle s) k _ own) ∙ h in cc
reach_rung (Do.Store w v) row k i own away h = let no : None ≡ Some i = sym (reach_none row (Do.Store w v) k _ own) ∙ h in cc

pub rung_owns : (o : Op) (row : QueueRow) (i : ℕ) → rung_at o row ≡ Some i → (r : Role) × (owner_of row r ≡ i)
rung_owns Do.See row i rung = cc
rung_owns Do.Room row i rung = cc
rung_owns Do.Take row i rung = cc
rung_owns Do.Put row i rung = cc
rung_owns (Do.Ask s) row i rung = cc
rung_owns (Do.Waive s) row i rung = cc
rung_owns (Do.Wanted s) row i rung = cc
rung_owns (Do.Settle s) row i rung = cc
rung_owns (Do.Wake s) row i rung = cc
rung_owns (Do.Ring Forward) row i rung = (Consumer, some_is rung)
rung_owns (Do.Ring Backward) row i rung = (Producer, some_is rung)
rung_owns (Do.Store w v) row i rung = cc

-- actor k, which is x, makes this call on a queue of this row, and is then x'
module _ {A : Type 0} (m : Means A) (law : Lawful m) (rows : List QueueRow) (mo : Moment A) (v : List Queue) (passed : Passed) (journal : List Entry) (k : ℕ) (x x' : A) (deed : Deed) (here : slice_get mo.actors k ≡ Some x) (old : Holds m rows mo passed journal) (happened : Happens mo.world deed v) (steps : Steps m x x' deed) (runs : is_runnable m mo.world k x ≡ true) (fits : m.Fits (end_at v) x') (row : QueueRow) (there : slice_get rows deed.event.queue.0 ≡ Some row) where
  abbrev op : Op
  op = deed.event.op

  abbrev history : History
  history = start_history rows

  abbrev then_actors : List A
  then_actors = slice_set mo.actors k x'

  abbrev then_ : Moment A
  then_ = record { world = v; actors = slice_set mo.actors k x' }

  abbrev after_ : List Entry
  after_ = journal ++ record { actor = record { 0 = k }; event = deed.event } ∷ []

  then_holds : Holds m rows then_ (with_deed passed deed) after_
  then_holds = step_holds m law rows mo v passed journal k x x' deed here old happened steps runs fits

  owner : owner_of row (role_of op) ≡ k
  owner =
      let seat = old.seated.given k x here (role_of op) deed.event.queue.0 (own_call m x x' deed.event steps.turned) in
      let same : seat.0 ≡ row = some_is (sym seat.1 ∙ there) in
      subst (λ (r : QueueRow). owner_of r (role_of op) ≡ k) same seat.2

  may : MayCall nobody row (role_of op) k
  may = record { some = (role_of op, owner); own = λ calm. owner }

  -- for whom a notification is pending stays, but for the caller and for whom it rings
  pending_same : (i : ℕ) → i ≢ k → (rung_at op row ≡ Some i → ⊥) → is_pending i v ≡ is_pending i mo.world
  pending_same i away quiet =
      called_here m rows then_ (with_deed passed deed) after_ then_holds i
      ∙ (runnable_apart (λ j. Calm) history rows journal k deed.event row there may i [] away (λ h. quiet (reach_rung op row k i owner away h)) (λ p w is q r. cc)
      ∙ sym (called_here m rows mo passed journal old i))

  abbrev flags : List Bool
  flags = flags_in m mo.world 0 mo.actors

  abbrev then_flags : List Bool
  then_flags = flags_in m v 0 (slice_set mo.actors k x')

  lengths : length then_flags ≡ length flags
  lengths = flags_count m v 0 then_actors ∙ (length-set mo.actors k x' ∙ sym (flags_count m mo.world 0 mo.actors))

  others : (i : ℕ) → i ≢ k → (rung_at op row ≡ Some i → ⊥) → slice_get then_flags i ≡ slice_get flags i
  others i away quiet = others_case (get_case mo.actors i)
    where
      others_case : ((y : A) × (slice_get mo.actors i ≡ Some y)) ⊎ (length mo.actors ≤ i) → slice_get then_flags i ≡ slice_get flags i
      others_case (inl y) =
          flag_at m v 0 i i then_actors y.0 (omega arith) (slice_get_beside mo.actors k i x' away ∙ y.1)
          ∙ (ap (λ b. Some (not (is_at_rest (m.round y.0)) || b)) (pending_same i away quiet)
          ∙ sym (flag_at m mo.world 0 i i mo.actors y.0 (omega arith) y.1))
      others_case (inr past) =
          slice_get_past then_flags i (let n = flags_count m v 0 then_actors in let s = length-set mo.actors k x' in omega arith)
          ∙ sym (slice_get_past flags i (let n = flags_count m mo.world 0 mo.actors in omega arith))

  asked_then : (i : ℕ) (z : A) (b : Bool) → slice_get then_actors i ≡ Some z → b ≡ is_runnable m v i z → slice_get then_flags i ≡ Some b
  asked_then i z b at is = flag_at m v 0 i i then_actors z (omega arith) at ∙ ap Some (sym is)

  caller_then : (idle : Bool) → idle ≡ not (is_runnable m v k x') → slice_get then_flags k ≡ Some (not idle)
  caller_then idle is = asked_then k x' (not idle) (slice_get_written mo.actors k x x' here) (ap not is ∙ sym (not_not (is_runnable m v k x')))

  flag_here : slice_get flags k ≡ Some (is_runnable m mo.world k x)
  flag_here = flag_at m mo.world 0 k k mo.actors x (omega arith) here

  -- the runnable actors after the call
  pub running_then : (rung : Option ℕ) (woken idle : Bool) (place : ℕ) → rung_at op row ≡ rung → IsAsked m then_actors v rung woken → idle ≡ not (is_runnable m v k x') → slice_get (places_from 0 flags) place ≡ Some k
      → places_from 0 then_flags ≡ with_option rung woken (removed_if idle (places_from 0 flags) place)
  running_then None woken idle place rung asked is at =
      ap (places_from 0) (differs_at flags then_flags k (not idle) _ lengths flag_here (caller_then idle is) (λ i away. others i away (λ h. let no : None ≡ Some i = sym rung ∙ h in cc)))
      ∙ cleared flags k place idle at
  running_then (Some i) woken idle place rung asked is at =
      let z = asked i refl in
      let below : i < length then_actors = there_below then_actors i z.0 z.1 in
      let size : length then_actors ≡ length mo.actors = length-set mo.actors k x' in
      let n : length flags ≡ length mo.actors = flags_count m mo.world 0 mo.actors in
      let d = there_is flags i (omega arith) in
      let few : length (slice_set flags k (not idle)) ≡ length flags = length-set flags k (not idle) in
      ap (places_from 0) (differs_twice flags then_flags k i (not idle) _ d.0 woken lengths flag_here d.1 (caller_then idle is) (asked_then i z.0 woken z.1 z.2) (λ j away apart. others j away (λ h. apart (some_is (sym h ∙ rung)))))
      ∙ (places_kept woken i (slice_set flags k (not idle)) (omega arith)
      ∙ ap (with_if woken i) (cleared flags k place idle at))

-- a runnable actor is there
pub runs_below : {A : Type 0} (m : Means A) (mo : Moment A) (place k : ℕ) → slice_get (running_in m mo) place ≡ Some k → k < length mo.actors
runs_below m mo place k at =
    let h = places_below 0 place k (flags_in m mo.world 0 mo.actors) at in
    let lt : k < 0 + length (flags_in m mo.world 0 mo.actors) = h.1 in
    let n : length (flags_in m mo.world 0 mo.actors) ≡ length mo.actors = flags_count m mo.world 0 mo.actors in
    omega arith

-- and it is so by its own state
pub runs_so : {A : Type 0} (m : Means A) (mo : Moment A) (place k : ℕ) (x : A) → slice_get (running_in m mo) place ≡ Some k → slice_get mo.actors k ≡ Some x → is_runnable m mo.world k x ≡ true
runs_so m mo place k x at here =
    let so = places_so 0 k k place (flags_in m mo.world 0 mo.actors) (omega arith) at in
    some_is (sym (flag_at m mo.world 0 k k mo.actors x (omega arith) here) ∙ so)

pub running_few : {A : Type 0} (m : Means A) (mo : Moment A) → length (running_in m mo) ≤ length mo.actors
running_few m mo = let f : length (places_from 0 (flags_in m mo.world 0 mo.actors)) ≤ length (flags_in m mo.world 0 mo.actors) = places_few 0 (flags_in m mo.world 0 mo.actors) in let g : length (flags_in m mo.world 0 mo.actors) ≡ length mo.actors = flags_count m mo.world 0 mo.actors in omega arith

-- the actor at a place among the kept ones is there
pub runner_there : {A : Type 0} (m : Means A) (s : Shown A) (running : Ascending) → IsSmall m s running → (place k : ℕ) → slice_get running.list place ≡ Some k → k < length s.moment.actors
runner_there m s running small place k at = runs_below m s.moment place k (subst (λ l. slice_get l place ≡ Some k) small.runs at)

-- a player is one in its start state
pub small_start : {A : Type 0} (m : Means A) (rows : List QueueRow) (actors : List A) (running : Ascending) → Begins m rows actors → running.list ≡ running_in m (start_of rows actors) → length actors ≤ running.room → IsSmall m (shown rows actors (starts rows) actors []) running
small_start m rows actors running begins list room = record {
  told = record { begins = begins; turns = []; told = record { tale = tt; moment = refl; journal = refl } };
  runs = list;
  room = room;
}

-- each actor fits some ends
pub all_fit : {A : Type 0} (m : Means A) (law : Lawful m) (s : Shown A) → IsTold m s → (k : ℕ) (x : A) → slice_get s.moment.actors k ≡ Some x → IsFit m x
all_fit m law s told k x at = (end_at s.moment.world, (stands_now m law s told).holds.fits k x at)

-- one turn more goes on to be told
pub told_on : {A : Type 0} (m : Means A) (place : ℕ) (s s' : Shown A) → IsTold m s → StepsAt m place s s' → IsTold m s'
told_on m place s s' is t =
    let told = is.told in
    let start : start_of s'.rows s'.start ≡ start_of s.rows s.start = ap (λ rs. start_of rs s'.start) t.rows ∙ ap (start_of s.rows) t.start in
    record {
      begins = subst (λ rs. Begins m rs s'.start) (sym t.rows) (subst (Begins m s.rows) (sym t.start) is.begins);
      turns = is.turns ++ t.turn ∷ [];
      told = record {
        tale = subst (λ mo. IsTale m mo (is.turns ++ t.turn ∷ [])) (sym start) (tale_join m (start_of s.rows s.start) is.turns (t.turn ∷ []) told.tale (subst (λ mo. IsTale m mo (t.turn ∷ [])) told.moment (t.happens, tt)));
        moment = t.moment ∙ (ap (λ mo. moment_after mo t.turn) told.moment ∙ (sym (after_join (start_of s.rows s.start) is.turns (t.turn ∷ [])) ∙ ap (λ mo. after_tale mo (is.turns ++ t.turn ∷ [])) (sym start)));
        journal = t.journal ∙ (ap (λ j. j ++ entry_of t.turn ∷ []) told.journal ∙ sym (journal_join is.turns (t.turn ∷ [])));
      };
    }

-- who is rung is one of the actors
pub rung_there : {A : Type 0} (m : Means A) (law : Lawful m) (s : Shown A) → IsTold m s → (k : ℕ) (x : A) (e : Event) (row : QueueRow) (i : ℕ) → e.queue.0 < length s.moment.world → row ≡ slice_index_or s.rows e.queue.0 row → rung_at e.op row ≡ Some i → i < length (slice_set s.moment.actors k x)
rung_there m law s told k x e row i within is rung =
    let holds = (stands_now m law s told).holds in
    let there : slice_get s.rows e.queue.0 ≡ Some row = slice_get_read s.rows _ e.queue.0 row refl (subst (λ n. e.queue.0 < n) holds.size within) is in
    let o = rung_owns e.op row i rung in
    let lt : i < length s.moment.actors = subst (λ n. n < length s.moment.actors) o.1 (holds.peopled e.queue.0 row there o.0) in
    rw length-set lt

-- a player after a step: the runnable actors are those of this list
pub record StepThen {A : Type 0} (m : Means A) (new : Shown A) (running : Ascending) : Type 0 where
  pub small : IsSmall m new running
  pub few : length running.list ≤ running.room

module _ {A : Type 0} (m : Means A) (law : Lawful m) (rows : List QueueRow) (start : List A) (w v : List Queue) (actors : List A) (journal : List Entry) (k : ℕ) (x x' : A) (e : Event) (place : ℕ) (running : Ascending) (small : IsSmall m (shown rows start w actors journal) running) (at : slice_get running.list place ≡ Some k) (x_is : x ≡ slice_index_or actors k x) (acts : Acts m w v x x' e) (fits : m.Fits (end_at v) x') where
  abbrev old_shown : Shown A
  old_shown = shown rows start w actors journal

  abbrev new_shown : Shown A
  new_shown = shown rows start v (slice_set actors k x') (journal ++ record { actor = record { 0 = k }; event = e } ∷ [])

  at_runs : slice_get (running_in m old_shown.moment) place ≡ Some k
  at_runs = subst (λ l. slice_get l place ≡ Some k) small.runs at

  below : k < length actors
  below = runs_below m old_shown.moment place k at_runs

  here_is : slice_get actors k ≡ Some x
  here_is = slice_get_read actors _ k x refl below x_is

  runs_now : is_runnable m w k x ≡ true
  runs_now = runs_so m old_shown.moment place k x at_runs here_is

  abbrev the_deed : Deed
  the_deed = record { event = e; body = acts.body }

  abbrev the_turn : Turn A
  the_turn = record { number = k; deed = the_deed; actor = x' }

  abbrev moment_with : List Queue → Moment A
  moment_with u = record { world = u; actors = slice_set actors k x' }

  pub steps_at : StepsAt m place old_shown new_shown
  steps_at = record {
    turn = the_turn;
    there = at_runs;
    happens = record { old = x; there = here_is; runs = runs_now; happened = subst (Happens w the_deed) acts.happened.after_is acts.happened; steps = acts.steps; fits = subst (λ u. m.Fits (end_at u) x') acts.happened.after_is fits };
    rows = refl;
    start = refl;
    moment = ap moment_with acts.happened.after_is;
    journal = refl;
  }

  pub told_then : IsTold m new_shown
  told_then = told_on m place old_shown new_shown small.told steps_at

  -- the actor that made the step fits
  pub fit_then : (y : A) → y ≡ slice_index_or (slice_set actors k x') k y → IsFit m y
  fit_then y y_is = all_fit m law new_shown told_then k y (slice_get_read (slice_set actors k x') _ k y refl (subst (λ n. k < n) (sym (length-set actors k x')) below) y_is)

  pub small_then : (y : A) (row : QueueRow) (rung : Option ℕ) (woken idle : Bool) → y ≡ slice_index_or (slice_set actors k x') k y → row ≡ slice_index_or rows e.queue.0 row → idle ≡ not (is_runnable m v k y) → rung ≡ rung_at e.op row → IsAsked m (slice_set actors k x') v rung woken
      → StepThen m new_shown (record running { list = with_option rung woken (removed_if idle running.list place) })
  small_then y row rung woken idle y_is row_is idle_is rung_is asked =
      let holds = (stands_now m law old_shown small.told).holds in
      let there : slice_get rows e.queue.0 ≡ Some row = slice_get_read rows _ e.queue.0 row refl (subst (λ n. e.queue.0 < n) holds.size acts.happened.there) row_is in
      let y_same : y ≡ x' = some_is (sym (slice_get_read (slice_set actors k x') _ k y refl (subst (λ n. k < n) (sym (length-set actors k x')) below) y_is) ∙ slice_get_written actors k x x' here_is) in
      let then_is = running_then m law rows old_shown.moment v _ journal k x x' the_deed here_is holds acts.happened acts.steps runs_now fits row there rung woken idle place (sym rung_is) asked (idle_is ∙ ap (λ a. not (is_runnable m v k a)) y_same) at_runs in
      let list_is : with_option rung woken (removed_if idle running.list place) ≡ running_in m new_shown.moment = ap (λ l. with_option rung woken (removed_if idle l place)) small.runs ∙ sym then_is in
      let size : length (slice_set actors k x') ≡ length actors = length-set actors k x' in
      let r : length actors ≤ running.room = small.room in
      let f : length (running_in m new_shown.moment) ≤ length (slice_set actors k x') = running_few m new_shown.moment in
      record {
        small = record { told = told_then; runs = list_is; room = omega arith };
        few = rw list_is (omega arith);
      }

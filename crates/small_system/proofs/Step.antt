use Rattle.std.proofs.Common.{◌≡◌, ◌≢◌, ◌⊎◌, ◌==◌, ◌<◌, ◌||◌, ◌&&◌, ◌+◌, ℕ, Bool, true, false, not, Some, List, [], ◌∷◌, ◌++◌, length, length-set, slice_get, slice_set, get_or, get_or-set_same, get_or-set_other, refl, sym, ◌∙◌, subst, ap, inl, inr, map, suc, arith}
use Rattle.std.proofs.lemmas.List.{map-append}
use Rattle.std.proofs.lemmas.Option.{slice_get-get_or}
use Rattle.std.proofs.Math.Dec.{eqb}
use Rattle.std.proofs.lemmas.Bool.{eqb-true}
use Rattle.std.proofs.lemmas.Bool.Decides.{eqb_tells}
use Rattle.cargo_core.specs.Items.{kind_of}
use Rattle.cargo_core.specs.declared.item.QueueKind.TheVariants as Kind
use Rattle.wire_core.specs.declared.names.QueueRow.{QueueRow}
use Rattle.wire_core.specs.declared.names.Event.{Event}
use Rattle.wire_core.specs.declared.names.Entry.{Entry}
use Rattle.wire_core.specs.declared.names.Side.{Side}
use Rattle.wire_core.specs.declared.names.Side.TheVariants.{Forward, Backward}
use Rattle.wire_core.specs.declared.names.Op.TheVariants as Do
use Rattle.wire_core.specs.Deeds.{Deed, Cargo, cargo_of}
use Rattle.wire_core.specs.Ends.{Role, Moves, role_of, waiting_role}
use Rattle.wire_core.specs.Lists.{Passed, with_deed, if_there, if_put}
use Rattle.wire_core.specs.Queues.{Queue, Happens, queue_at, no_queue, end_at, items_of, after, is_store, calls, is_pending}
use Rattle.wire_core.specs.Journal.{track, track_after, History, history_at, start_history, nobody, if_on, IsShown, LegalEntry, owner_of}
use Rattle.wire_core.proofs.Moving.{moves}
use Rattle.wire_core.proofs.Places.{slice_get_written, slice_get_beside}
use Rattle.wire_core.proofs.Tracks.{EachFrom-append, track_from-append, shown_tells, shown_finds, shown_condition, shown_carries, shown_after}
use Rattle.wire_core.specs.Marks.{HasCalmQueues, no_drops, since}
use Rattle.wire_core.proofs.Answering.{finds, tells, stays}
use Rattle.turn_kit.specs.Turns.{Post, is_at_rest, is_drop}
use Rattle.turn_kit.specs.Pace.{Paced, pendings, IsCalled}
use Rattle.turn_kit.proofs.Playing.{pace_own, pace_beside}
use Rattle.turn_kit.proofs.Plainness.{plain_next}
use Rattle.wire_core.specs.Marks.{is_vain_look}
use Rattle.play_core.specs.Runs.{called_from}
use Rattle.play_core.specs.Sheets.{IsSeat}
use Rattle.play_core.proofs.Lists.{some_is}
use Rattle.small_system.specs.Meanings.{Means, Own, Steps, Lawful}
use Rattle.small_system.specs.Tales.{Moment, is_runnable}
use Rattle.small_system.specs.Standing.{AreSeated, Holds}
use Rattle.small_system.proofs.Posts.{own_call, own_back, own_on, waiting_of, all_at}
use Rattle.player_kit.proofs.Showing.{no_row, called_queues, taken_shown, sent_shown, still_there, moved_there, none_put, put_kind}

pub called_here : {A : Type 0} (m : Means A) (rows : List QueueRow) (mo : Moment A) (passed : Passed) (journal : List Entry) → Holds m rows mo passed journal → (actor : ℕ) → is_pending actor mo.world ≡ called_from actor 0 (start_history rows) rows journal
called_here m rows mo passed journal h actor = called_queues actor 0 (start_history rows) journal rows mo.world h.size (λ n row at. let e : n ≡ 0 + n = omega arith in subst (λ i. IsShown row (queue_at mo.world n) (track (start_history rows) i journal)) e (h.queues n row at))

-- the end of an actor at which a notification is pending
record Calling (k : ℕ) (history : History) (rows : List QueueRow) (journal : List Entry) : Type 0 where
  pub queue : ℕ
  pub row : QueueRow
  pub there : slice_get rows queue ≡ Some row
  pub side : Side
  pub owner : owner_of row (waiting_role side) ≡ k
  pub pends : pendings history journal queue side ≡ true

and_parts : (a b : Bool) → (a && b) ≡ true → (a ≡ true) × (b ≡ true)
and_parts true true h = (refl, refl)
and_parts true false h = cc
and_parts false b h = cc

or_parts : (a b : Bool) → (a || b) ≡ true → (a ≡ true) ⊎ (b ≡ true)
or_parts true b h = inl refl
or_parts false b h = inr h

called_case : (k n : ℕ) (history : History) (all rows : List QueueRow) (journal : List Entry) → ((m : ℕ) (row : QueueRow) → slice_get rows m ≡ Some row → slice_get all (n + m) ≡ Some row) → called_from k n history rows journal ≡ true → Calling k history all journal
called_case k n history all [] journal there h = cc
called_case k n history all (row ∷ rows) journal there h = elim (or_parts (calls k row.producer.0 row.consumer.0 (track history n journal).bells) (called_from k (n + 1) history rows journal) h) [
  | inl here ↦
      let z : n + 0 ≡ n = omega arith in
      let at = subst (λ m. slice_get all m ≡ Some row) z (there 0 row refl) in
      elim (or_parts ((row.consumer.0 == k) && (track history n journal).bells.forward.pending) ((row.producer.0 == k) && (track history n journal).bells.backward.pending) here) [
        | inl f ↦ let a = and_parts (row.consumer.0 == k) (track history n journal).bells.forward.pending f in record { queue = n; row = row; there = at; side = Forward; owner = eqb-true row.consumer.0 k a.0; pends = a.1 }
        | inr b ↦ let a = and_parts (row.producer.0 == k) (track history n journal).bells.backward.pending b in record { queue = n; row = row; there = at; side = Backward; owner = eqb-true row.producer.0 k a.0; pends = a.1 }
      ]
  | inr later ↦ called_case k (n + 1) history all rows journal (λ m r at. let z : n + suc m ≡ (n + 1) + m = omega arith in subst (λ i. slice_get all i ≡ Some r) z (there (suc m) r at)) later
]

-- an actor that is called has a notification pending at one of its ends
called_end : {A : Type 0} (m : Means A) (rows : List QueueRow) (actors : List A) → AreSeated m rows actors → (journal : List Entry) (k : ℕ) (x : A) → slice_get actors k ≡ Some x → called_from k 0 (start_history rows) rows journal ≡ true → IsCalled (pendings (start_history rows) journal) (m.round x).posts
called_end m rows actors seated journal k x here h =
    let c = called_case k 0 (start_history rows) rows rows journal (λ n row at. let z : n ≡ 0 + n = omega arith in subst (λ i. slice_get rows i ≡ Some row) z at) h in
    let o = seated.all k x here (waiting_role c.side) c.queue (c.row, c.there, c.owner) in
    record { place = o.place; post = o.post; there = o.there; pends = subst (λ s. pendings (start_history rows) journal o.post.queue s ≡ true) (sym (waiting_of o.post.side c.side o.role)) (subst (λ n. pendings (start_history rows) journal n c.side ≡ true) (sym o.queue) c.pends) }

called_so : (a b : Bool) → a ≡ true → (not a || b) ≡ true → b ≡ true
called_so true b e g = g
called_so false b e g = cc

-- actor k, which is x, makes this call, and is then x'
module _ {A : Type 0} (m : Means A) (law : Lawful m) (rows : List QueueRow) (mo : Moment A) (v : List Queue) (passed : Passed) (journal : List Entry) (k : ℕ) (x x' : A) (deed : Deed) (here : slice_get mo.actors k ≡ Some x) (old : Holds m rows mo passed journal) (happened : Happens mo.world deed v) (steps : Steps m x x' deed) (runs : is_runnable m mo.world k x ≡ true) where
  abbrev w : List Queue
  w = mo.world

  abbrev actors : List A
  actors = mo.actors

  abbrev e : Event
  e = deed.event

  abbrev history : History
  history = start_history rows

  abbrev entry : Entry
  entry = record { actor = record { 0 = k }; event = deed.event }

  own : Own m x (role_of e.op) e.queue.0
  own = own_call m x x' e steps.turned

  the_owner : (row : QueueRow) → slice_get rows e.queue.0 ≡ Some row → (j : ℕ) (y : A) → slice_get actors j ≡ Some y → Own m y (role_of e.op) e.queue.0 → owner_of row (role_of e.op) ≡ j
  the_owner row there j y at theirs =
      let seat = old.seated.given j y at (role_of e.op) e.queue.0 theirs in
      let same : seat.0 ≡ row = some_is (sym seat.1 ∙ there) in
      subst (λ (r : QueueRow). owner_of r (role_of e.op) ≡ j) same seat.2

  row_there : slice_get rows e.queue.0 ≡ Some (get_or rows e.queue.0 no_row)
  row_there = slice_get-get_or rows e.queue.0 no_row (subst (λ n. e.queue.0 < n) old.size happened.there)

  -- an actor's ends are its own: no other actor has them
  apart : (j : ℕ) (y : A) → slice_get actors j ≡ Some y → (j ≡ k → ⊥) → Own m y (role_of e.op) e.queue.0 → ⊥
  apart j y at away theirs = away (sym (the_owner _ row_there j y at theirs) ∙ the_owner _ row_there k x here own)

  abbrev passed' : Passed
  passed' = with_deed passed deed

  more : (n : ℕ) → track history n (journal ++ entry ∷ []) ≡ if_on (e.queue.0 == n) (track_after (track history n journal) e) (track history n journal)
  more n = track_from-append (history_at history n) n journal entry

  shows_taken' : (n : ℕ) → items_of (passed'.taken n) ≡ (track history n (journal ++ entry ∷ [])).taken
  shows_taken' n = taken_shown (e.queue.0 == n) (track history n journal) e (cargo_of deed) (passed.taken n) happened.may.item (old.shows_taken n) ∙ ap (λ t. t.taken) (sym (more n))

  shows_sent' : (n : ℕ) → items_of (passed'.sent n) ≡ (track history n (journal ++ entry ∷ [])).sent
  shows_sent' n = sent_shown (e.queue.0 == n) (track history n journal) e (cargo_of deed) (passed.sent n) happened.may.item (old.shows_sent n) ∙ ap (λ t. t.sent) (sym (more n))

  calls' : passed'.calls ≡ map (λ (e : Entry). e.event) (journal ++ entry ∷ [])
  calls' = ap (λ es. es ++ e ∷ []) old.calls ∙ sym (map-append (λ (e : Entry). e.event) journal (entry ∷ []))

  kinds' : (n : ℕ) (row : QueueRow) → slice_get rows n ≡ Some row → (j : ℕ) (c : Cargo) → slice_get (passed'.sent n) j ≡ Some c → ((eqb e.queue.0 n ≡ true) × (e.queue.0 ≡ n)) ⊎ ((eqb e.queue.0 n ≡ false) × (e.queue.0 ≢ n)) → kind_of c.0 ≡ row.kind
  kinds' n row rat j c at (inl same) =
      let here : slice_get (passed.sent n ++ if_put e.op (cargo_of deed)) j ≡ Some c = subst (λ b. slice_get (passed.sent n ++ if_there b (if_put e.op (cargo_of deed))) j ≡ Some c) same.0 at in
      elim (put_kind (queue_at w e.queue.0) e.op (cargo_of deed) (passed.sent n) happened.may.carries j c here) [
        | inl was ↦ old.kinds n row rat j c was
        | inr is ↦ is ∙ (old.queues e.queue.0 row (rw same.1 rat)).kind
      ]
  kinds' n row rat j c at (inr away) =
      let here : slice_get (passed.sent n ++ []) j ≡ Some c = subst (λ b. slice_get (passed.sent n ++ if_there b (if_put e.op (cargo_of deed))) j ≡ Some c) away.0 at in
      old.kinds n row rat j c (none_put (passed.sent n) j c here)

  size' : length v ≡ length rows
  size' = ap length happened.after_is ∙ (length-set w e.queue.0 _ ∙ old.size)

  queue_after_here : (n : ℕ) (row : QueueRow) → slice_get rows n ≡ Some row → ((eqb e.queue.0 n ≡ true) × (e.queue.0 ≡ n)) ⊎ ((eqb e.queue.0 n ≡ false) × (e.queue.0 ≢ n)) → IsShown row (queue_at v n) (if_on (e.queue.0 == n) (track_after (track history n journal) e) (track history n journal))
  queue_after_here n row at (inl same) =
      rw (happened.after_is, same.0, ← same.1, get_or-set_same w e.queue.0 (after (queue_at w e.queue.0) deed) no_queue happened.there)
      (shown_after row (queue_at w e.queue.0) (track history e.queue.0 journal) deed (old.queues e.queue.0 row (rw same.1 at)) happened.may)
  queue_after_here n row at (inr away) =
      rw (happened.after_is, away.0, get_or-set_other w e.queue.0 n (after (queue_at w e.queue.0) deed) no_queue (λ h. away.1 (sym h)))
      (old.queues n row at)

  queues' : (n : ℕ) (row : QueueRow) → slice_get rows n ≡ Some row → IsShown row (queue_at v n) (track history n (journal ++ entry ∷ []))
  queues' n row at = subst (IsShown row (queue_at v n)) (sym (more n)) (queue_after_here n row at (eqb_tells e.queue.0 n))

  there_after : (n : ℕ) → ((eqb e.queue.0 n ≡ true) × (e.queue.0 ≡ n)) ⊎ ((eqb e.queue.0 n ≡ false) × (e.queue.0 ≢ n)) → passed'.sent n ≡ passed'.taken n ++ (queue_at v n).entries
  there_after n (inl same) =
      rw (happened.after_is, same.0, ← same.1, get_or-set_same w e.queue.0 (after (queue_at w e.queue.0) deed) no_queue happened.there)
      (moved_there (queue_at w e.queue.0) e.op (cargo_of deed) (passed.sent e.queue.0) (passed.taken e.queue.0) happened.may.carries (old.stands_there e.queue.0))
  there_after n (inr away) =
      rw (happened.after_is, away.0, get_or-set_other w e.queue.0 n (after (queue_at w e.queue.0) deed) no_queue (λ h. away.1 (sym h)))
      (still_there (queue_at w n).entries (passed.sent n) (passed.taken n) (old.stands_there n))

  changes : Moves (end_at w) e (end_at v)
  changes = moves w deed v happened

  now_is : (j : ℕ) (y : A) → slice_get (slice_set actors k x') j ≡ Some y → j ≡ k → x' ≡ y
  now_is j y at same = some_is (sym (slice_get_written actors k x x' here) ∙ (ap (slice_get (slice_set actors k x')) (sym same) ∙ at))

  was : (j : ℕ) (y : A) → slice_get (slice_set actors k x') j ≡ Some y → j ≢ k → slice_get actors j ≡ Some y
  was j y at away = sym (slice_get_beside actors k j x' away) ∙ at

  fits' : m.Fits (end_at v) x' → (j : ℕ) (y : A) → slice_get (slice_set actors k x') j ≡ Some y → ((eqb j k ≡ true) × (j ≡ k)) ⊎ ((eqb j k ≡ false) × (j ≢ k)) → m.Fits (end_at v) y
  fits' new j y at (inl same) = subst (m.Fits (end_at v)) (now_is j y at same.1) new
  fits' new j y at (inr away) = law.fits_beside (end_at w) (end_at v) y (λ r n theirs. changes.others r n (λ a b. apart j y (was j y at away.1) away.1 (subst (λ r'. Own m y r' e.queue.0) a (subst (Own m y r) b theirs)))) (old.fits j y (was j y at away.1))

  stands' : (j : ℕ) (y : A) → slice_get (slice_set actors k x') j ≡ Some y → ((eqb j k ≡ true) × (j ≡ k)) ⊎ ((eqb j k ≡ false) × (j ≢ k)) → m.StandsFor y passed'
  stands' j y at (inl same) = subst (λ a. m.StandsFor a passed') (now_is j y at same.1) (steps.kept passed (old.stands k x here))
  stands' j y at (inr away) = law.stands_beside (end_at w) passed deed y (old.fits j y (was j y at away.1)) (apart j y (was j y at away.1) away.1) (old.stands j y (was j y at away.1))

  given' : (j : ℕ) (y : A) → slice_get (slice_set actors k x') j ≡ Some y → ((eqb j k ≡ true) × (j ≡ k)) ⊎ ((eqb j k ≡ false) × (j ≢ k)) → (r : Role) (n : ℕ) → Own m y r n → IsSeat rows j (record { queue = n; role = r })
  given' j y at (inl same) r n theirs = subst (λ i. IsSeat rows i (record { queue = n; role = r })) (sym same.1) (old.seated.given k x here r n (own_back m x x' e steps.turned r n (subst (λ a. Own m a r n) (sym (now_is j y at same.1)) theirs)))
  given' j y at (inr away) r n theirs = old.seated.given j y (was j y at away.1) r n theirs

  all' : (j : ℕ) (y : A) → slice_get (slice_set actors k x') j ≡ Some y → ((eqb j k ≡ true) × (j ≡ k)) ⊎ ((eqb j k ≡ false) × (j ≢ k)) → (r : Role) (n : ℕ) → IsSeat rows j (record { queue = n; role = r }) → Own m y r n
  all' j y at (inl same) r n seat = subst (λ a. Own m a r n) (now_is j y at same.1) (own_on m x x' e steps.turned r n (old.seated.all k x here r n (subst (λ i. IsSeat rows i (record { queue = n; role = r })) same.1 seat)))
  all' j y at (inr away) r n seat = old.seated.all j y (was j y at away.1) r n seat

  seated' : AreSeated m rows (slice_set actors k x')
  seated' = record { given = λ j y at. given' j y at (eqb_tells j k); all = λ j y at. all' j y at (eqb_tells j k) }

  -- it made no store
  plain : is_store e.op ≡ false
  plain = ap is_store steps.turned.posted.posted.op ∙ plain_next steps.turned.posted.post.state steps.turned.posted.post.side steps.turned.need

  unstored' : (n : ℕ) → ((eqb e.queue.0 n ≡ true) × (e.queue.0 ≡ n)) ⊎ ((eqb e.queue.0 n ≡ false) × (e.queue.0 ≢ n)) → (queue_at v n).indices.stored ≡ false
  unstored' n (inl same) =
      rw (happened.after_is, ← same.1, get_or-set_same w e.queue.0 (after (queue_at w e.queue.0) deed) no_queue happened.there)
      (stays (queue_at w e.queue.0) deed plain ∙ old.unstored e.queue.0)
  unstored' n (inr away) =
      rw (happened.after_is, get_or-set_other w e.queue.0 n (after (queue_at w e.queue.0) deed) no_queue (λ h. away.1 (sym h)))
      (old.unstored n)

  pub legal' : LegalEntry nobody history rows journal entry
  legal' =
      let shown = old.queues e.queue.0 (get_or rows e.queue.0 no_row) row_there in
      record {
        row = get_or rows e.queue.0 no_row;
        there = row_there;
        legal = record {
          condition = shown_condition (get_or rows e.queue.0 no_row) (queue_at w e.queue.0) (track history e.queue.0 journal) shown e.op happened.may.condition;
          stores = λ h. let no : true ≡ false = sym h ∙ plain in absurd cc;
          finds = shown_finds (get_or rows e.queue.0 no_row) (queue_at w e.queue.0) (track history e.queue.0 journal) shown e.op e.answer (finds (queue_at w e.queue.0) deed happened.may);
          tells = λ calm. shown_tells (get_or rows e.queue.0 no_row) (queue_at w e.queue.0) (track history e.queue.0 journal) shown e.op e.answer (tells (queue_at w e.queue.0) deed happened.may (old.unstored e.queue.0) plain);
          carries = shown_carries (get_or rows e.queue.0 no_row) (queue_at w e.queue.0) (track history e.queue.0 journal) shown e.op (cargo_of deed) e.item happened.may.carries happened.may.item;
          caller = let is = the_owner (get_or rows e.queue.0 no_row) row_there k x here own in record { some = (role_of e.op, is); own = λ calm. is };
        };
      }

  all_calm : (a : ℕ) → HasCalmQueues nobody rows a
  all_calm a = record { calm = refl; queues = λ n row at r o. refl }

  -- where it was at rest, it was called
  pressed : is_at_rest (m.round x) ≡ true → IsCalled (pendings history journal) (m.round x).posts
  pressed rest = called_end m rows actors old.seated journal k x here (sym (called_here m rows mo passed journal old k) ∙ called_so (is_at_rest (m.round x)) (is_pending k w) rest runs)

  no_drop : false ≡ is_drop steps.turned.posted.post e
  no_drop = sym (ap (λ d. d && is_vain_look e.op e.answer) (all_at (λ (p : Post). p.drops ≡ false) (m.round x).posts (law.waits x) steps.turned.place steps.turned.posted.post steps.turned.posted.there))

  post_owner : (j : ℕ) (y : A) → slice_get actors j ≡ Some y → (i : ℕ) (p : Post) → slice_get (m.round y).posts i ≡ Some p → (row : QueueRow) → slice_get rows p.queue ≡ Some row → owner_of row (waiting_role p.side) ≡ j
  post_owner j y at i p pat row rat =
      let seat = old.seated.given j y at (waiting_role p.side) p.queue (record { place = i; post = p; there = pat; queue = refl; role = refl }) in
      let same : seat.0 ≡ row = some_is (sym seat.1 ∙ rat) in
      subst (λ (r : QueueRow). owner_of r (waiting_role p.side) ≡ j) same seat.2

  paced' : (j : ℕ) (y : A) → slice_get (slice_set actors k x') j ≡ Some y → ((eqb j k ≡ true) × (j ≡ k)) ⊎ ((eqb j k ≡ false) × (j ≢ k)) → Paced (pendings history (journal ++ entry ∷ [])) (since no_drops j (journal ++ entry ∷ [])) (m.round y)
  paced' j y at (inl same) =
      let now = pace_own nobody no_drops history rows journal entry legal' (all_calm k) (m.round x) (m.round x') (old.paced k x here) steps.turned no_drop pressed in
      subst (λ i. Paced (pendings history (journal ++ entry ∷ [])) (since no_drops i (journal ++ entry ∷ [])) (m.round y)) (sym same.1) (subst (λ a. Paced (pendings history (journal ++ entry ∷ [])) (since no_drops k (journal ++ entry ∷ [])) (m.round a)) (now_is j y at same.1) now)
  paced' j y at (inr away) = pace_beside nobody no_drops history rows journal entry legal' j (all_calm j) (m.round y) (λ h. away.1 (sym h)) (post_owner j y (was j y at away.1)) (old.paced j y (was j y at away.1))

  -- all goes on to hold
  pub step_holds : m.Fits (end_at v) x' → Holds m rows (record { world = v; actors = slice_set mo.actors k x' }) (with_deed passed deed) (journal ++ entry ∷ [])
  step_holds new = record {
    stands_there = λ n. there_after n (eqb_tells e.queue.0 n);
    shows_taken = shows_taken';
    shows_sent = shows_sent';
    calls = calls';
    kinds = λ n row at j c there. kinds' n row at j c there (eqb_tells e.queue.0 n);
    size = size';
    queues = queues';
    unstored = λ n. unstored' n (eqb_tells e.queue.0 n);
    fits = λ j y at. fits' new j y at (eqb_tells j k);
    stands = λ j y at. stands' j y at (eqb_tells j k);
    seated = seated';
    paced = λ j y at. paced' j y at (eqb_tells j k);
    peopled = λ n row at r. rw length-set (old.peopled n row at r);
    few = rw length-set old.few;
    legal = EachFrom-append (LegalEntry nobody history rows) [] journal entry old.legal legal';
  }

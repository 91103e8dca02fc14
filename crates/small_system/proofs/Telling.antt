use Rattle.std.proofs.Common.{◌≡◌, ◌+◌, ◌++◌, ◌<◌, ◌⊎◌, ◌≢◌, ℕ, true, false, get_or, inl, inr, List, [], ◌∷◌, Some, length, length-set, slice_get, slice_set, append_assoc, refl, sym, ap, ◌∙◌, subst, arith}
use Rattle.std.proofs.Math.Dec.{eqb}
use Rattle.std.proofs.lemmas.Bool.Decides.{eqb_tells}
use Rattle.std.proofs.lemmas.List.{append-nil, map-append, length-map}
use Rattle.std.proofs.lemmas.Option.{slice_get-get_or}
use Rattle.play_core.specs.Moved.{moved, noes_of}
use Rattle.play_core.specs.Rests.Showing.{HaveItems, HaveBells}
use Rattle.wire_core.proofs.Places.{slice_get_written, slice_get_beside}
use Rattle.wire_core.specs.declared.names.QueueRow.{QueueRow}
use Rattle.wire_core.specs.declared.names.Entry.{Entry}
use Rattle.wire_core.specs.Lists.{Passed, with_deed, nothing_passed}
use Rattle.wire_core.specs.Queues.{starts, queue_at}
use Rattle.wire_core.specs.Ends.{Role, Consumer, Producer}
use Rattle.wire_core.specs.Fates.{noes_at}
use Rattle.wire_core.specs.Journal.{start_history, history_at, start_track, IsShown}
use Rattle.wire_core.proofs.BellTheorem.{start_is}
use Rattle.play_core.proofs.Looking.{track_looks}
use Rattle.turn_kit.specs.Pace.{pendings}
use Rattle.turn_kit.proofs.Pacing.{paced_anew}
use Rattle.play_core.proofs.Lists.{some_is}
use Rattle.small_system.specs.Meanings.{Means, Lawful}
use Rattle.small_system.specs.Tales.{Moment, Turn, start_of, IsTurn, moment_after, IsTale, after_tale, entry_of, journal_of, passed_from, passed_by, Along}
use Rattle.small_system.specs.Standing.{Begins, Holds}
use Rattle.small_system.specs.Shows.{Shown, IsTold, Stands}
use Rattle.small_system.proofs.Step.{step_holds}
use Rattle.player_kit.proofs.Showing.{no_row, starts_shown, nothing_there, none_stored}

-- Tales go on, and at each moment of one all holds.

pub after_join : {A : Type 0} (mo : Moment A) (ts us : List (Turn A)) → after_tale mo (ts ++ us) ≡ after_tale (after_tale mo ts) us
after_join mo [] us = refl
after_join mo (t ∷ ts) us = after_join (moment_after mo t) ts us

pub tale_join : {A : Type 0} (m : Means A) (mo : Moment A) (ts us : List (Turn A)) → IsTale m mo ts → IsTale m (after_tale mo ts) us → IsTale m mo (ts ++ us)
tale_join m mo [] us first then_ = then_
tale_join m mo (t ∷ ts) us first then_ = (first.0, tale_join m (moment_after mo t) ts us first.1 then_)

pub tale_first : {A : Type 0} (m : Means A) (mo : Moment A) (ts us : List (Turn A)) → IsTale m mo (ts ++ us) → IsTale m mo ts
tale_first m mo [] us all = tt
tale_first m mo (t ∷ ts) us all = (all.0, tale_first m (moment_after mo t) ts us all.1)

pub tale_rest : {A : Type 0} (m : Means A) (mo : Moment A) (ts us : List (Turn A)) → IsTale m mo (ts ++ us) → IsTale m (after_tale mo ts) us
tale_rest m mo [] us all = all
tale_rest m mo (t ∷ ts) us all = tale_rest m (moment_after mo t) ts us all.1

pub journal_join : {A : Type 0} (ts us : List (Turn A)) → journal_of (ts ++ us) ≡ journal_of ts ++ journal_of us
journal_join ts us = map-append entry_of ts us

pub passed_join : {A : Type 0} (p : Passed) (ts us : List (Turn A)) → passed_from p (ts ++ us) ≡ passed_from (passed_from p ts) us
passed_join p [] us = refl
passed_join p (t ∷ ts) us = passed_join (with_deed p t.deed) ts us

-- what begins holds
pub start_small : {A : Type 0} (m : Means A) (rows : List QueueRow) (actors : List A) → Begins m rows actors → Holds m rows (start_of rows actors) nothing_passed []
start_small m rows actors s = record {
  stands_there = λ n. sym (nothing_there rows n);
  shows_taken = λ n. ap (λ t. t.taken) (sym (start_is rows n));
  shows_sent = λ n. ap (λ t. t.sent) (sym (start_is rows n));
  calls = refl;
  kinds = λ n row at k c there. cc;
  size = simp length-map;
  queues = λ n row at. subst (IsShown row (queue_at (starts rows) n)) (sym (start_is rows n)) (starts_shown rows n row at);
  unstored = none_stored rows;
  fits = s.fits;
  stands = s.stands;
  seated = s.seated;
  paced = λ k x at. paced_anew (pendings (start_history rows) []) (m.round x) (s.rounds k x at);
  peopled = s.peopled;
  few = s.few;
  legal = tt;
}

module _ {A : Type 0} (m : Means A) (law : Lawful m) (rows : List QueueRow) where
  -- a turn keeps it
  pub turn_holds : (mo : Moment A) (passed : Passed) (journal : List Entry) (t : Turn A) → Holds m rows mo passed journal → IsTurn m mo t → Holds m rows (moment_after mo t) (with_deed passed t.deed) (journal ++ entry_of t ∷ [])
  turn_holds mo passed journal t holds is = step_holds m law rows mo (moment_after mo t).world passed journal t.number is.old t.actor t.deed is.there holds is.happened is.steps is.runs is.fits

  pub tale_holds : (mo : Moment A) (passed : Passed) (journal : List Entry) (ts : List (Turn A)) → Holds m rows mo passed journal → IsTale m mo ts → Holds m rows (after_tale mo ts) (passed_from passed ts) (journal ++ journal_of ts)
  tale_holds mo passed journal [] holds tale = subst (Holds m rows mo passed) (sym (append-nil journal)) holds
  tale_holds mo passed journal (t ∷ ts) holds tale = subst (Holds m rows (after_tale (moment_after mo t) ts) (passed_from (with_deed passed t.deed) ts)) (append_assoc journal (entry_of t ∷ []) (journal_of ts)) (tale_holds (moment_after mo t) (with_deed passed t.deed) (journal ++ entry_of t ∷ []) ts (turn_holds mo passed journal t holds tale.0) tale.1)

  -- one turn more of those before
  pub holds_more : (mo : Moment A) (before : List (Turn A)) (t : Turn A) → Holds m rows mo (passed_by before) (journal_of before) → IsTurn m mo t → Holds m rows (moment_after mo t) (passed_by (before ++ t ∷ [])) (journal_of (before ++ t ∷ []))
  holds_more mo before t holds is =
      subst (λ p. Holds m rows (moment_after mo t) p (journal_of (before ++ t ∷ []))) (sym (passed_join nothing_passed before (t ∷ [])))
      (subst (Holds m rows (moment_after mo t) (with_deed (passed_by before) t.deed)) (sym (journal_join before (t ∷ []))) (turn_holds mo (passed_by before) (journal_of before) t holds is))

  pub holds_along : (mo : Moment A) (before ts : List (Turn A)) → Holds m rows mo (passed_by before) (journal_of before) → IsTale m mo ts → Along (λ mo b. Holds m rows mo (passed_by b) (journal_of b)) mo before ts
  holds_along mo before [] holds tale = holds
  holds_along mo before (t ∷ ts) holds tale = (holds, holds_along (moment_after mo t) (before ++ t ∷ []) ts (holds_more mo before t holds tale.0) tale.1)

  pub told_holds : (start : List A) (ts : List (Turn A)) → Begins m rows start → IsTale m (start_of rows start) ts → Holds m rows (after_tale (start_of rows start) ts) (passed_by ts) (journal_of ts)
  told_holds start ts begins tale = tale_holds (start_of rows start) nothing_passed [] ts (start_small m rows start begins) tale

pub stands_now : {A : Type 0} (m : Means A) → Lawful m → (s : Shown A) → IsTold m s → Stands m s
stands_now m law s told =
    record {
      passed = passed_by told.turns;
      holds = subst (λ mo. Holds m s.rows mo (passed_by told.turns) s.journal) (sym told.told.moment)
          (subst (Holds m s.rows (after_tale (start_of s.rows s.start) told.turns) (passed_by told.turns)) (sym told.told.journal) (told_holds m law s.rows s.start told.turns told.begins told.told.tale));
    }

-- no actor comes or goes
pub tale_count : {A : Type 0} (m : Means A) (mo : Moment A) (ts : List (Turn A)) → IsTale m mo ts → length (after_tale mo ts).actors ≡ length mo.actors
tale_count m mo [] tale = refl
tale_count m mo (t ∷ ts) tale = tale_count m (moment_after mo t) ts tale.1 ∙ length-set mo.actors t.number t.actor

-- who is there after a turn is made of what it was made of
turn_part : {A : Type 0} (m : Means A) (mo : Moment A) (t : Turn A) → IsTurn m mo t → (k : ℕ) (x : A) → slice_get mo.actors k ≡ Some x → ((eqb k t.number ≡ true) × (k ≡ t.number)) ⊎ ((eqb k t.number ≡ false) × (k ≢ t.number)) → (y : A) × (slice_get (slice_set mo.actors t.number t.actor) k ≡ Some y) × (m.part y ≡ m.part x)
turn_part m mo t is k x at (inl same) =
    let was : is.old ≡ x = some_is (sym is.there ∙ (ap (slice_get mo.actors) (sym same.1) ∙ at)) in
    (t.actor, ap (slice_get (slice_set mo.actors t.number t.actor)) same.1 ∙ slice_get_written mo.actors t.number is.old t.actor is.there, is.steps.part ∙ ap m.part was)
turn_part m mo t is k x at (inr away) = (x, slice_get_beside mo.actors t.number k t.actor away.1 ∙ at, refl)

pub tale_parts : {A : Type 0} (m : Means A) (mo : Moment A) (ts : List (Turn A)) → IsTale m mo ts → (k : ℕ) (x y : A) → slice_get mo.actors k ≡ Some x → slice_get (after_tale mo ts).actors k ≡ Some y → m.part y ≡ m.part x
tale_parts m mo [] tale k x y at at' = ap m.part (some_is (sym at' ∙ at))
tale_parts m mo (t ∷ ts) tale k x y at at' =
    let z = turn_part m mo t tale.0 k x at (eqb_tells k t.number) in
    tale_parts m (moment_after mo t) ts tale.1 k z.0 y z.1 at' ∙ z.2

-- nobody looked in vain before the start
none_looked : (r : Role) → noes_of r start_track ≡ 0
none_looked Consumer = refl
none_looked Producer = refl

pub items_shown : {A : Type 0} (m : Means A) (rows : List QueueRow) (mo : Moment A) (passed : Passed) (journal : List Entry) → Holds m rows mo passed journal → HaveItems passed (moved (start_history rows) journal)
items_shown m rows mo passed journal h = record {
  taken = h.shows_taken;
  sent = h.shows_sent;
  noes = λ r n.
      let calls = ap (noes_at r n) h.calls in
      let looks = track_looks r n (start_history rows) journal in
      let none : noes_of r (history_at (start_history rows) n) ≡ 0 = ap (noes_of r) (start_is rows n) ∙ none_looked r in
      omega (arith, calls, looks, none);
}

pub bells_shown : {A : Type 0} (m : Means A) (rows : List QueueRow) (mo : Moment A) (passed : Passed) (journal : List Entry) → Holds m rows mo passed journal → HaveBells mo.world (start_history rows) journal
bells_shown m rows mo passed journal h = λ n lt. (h.queues n (get_or rows n no_row) (slice_get-get_or rows n no_row (subst (λ i. n < i) h.size lt))).bells

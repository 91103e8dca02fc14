use Rattle.std.proofs.Common.{◌≡◌, ◌⊎◌, ◌==◌, ◌<◌, ◌≤◌, ◌++◌, ℕ, false, List, [], ◌∷◌, Some, length, slice_get, refl, sym, ap, ◌∙◌, subst, arith, inl, inr}
use Rattle.wire_core.specs.declared.names.QueueRow.{QueueRow}
use Rattle.wire_core.specs.declared.names.Entry.{Entry}
use Rattle.wire_core.specs.Ends.{Role}
use Rattle.wire_core.specs.Lists.{Passed, with_deed, nothing_passed}
use Rattle.wire_core.specs.Journal.{start_history, nobody, EachFrom, LegalEntry, owner_of}
use Rattle.wire_core.specs.Marks.{no_drops, since, since_from, calls_at, AreFew}
use Rattle.wire_core.proofs.BellTheorem.{bells_hold, queues_flow, starts_hold, starts_flow}
use Rattle.wire_core.proofs.Sinces.{eqb_apart}
use Rattle.turn_kit.specs.Pace.{pendings}
use Rattle.turn_kit.proofs.Playing.{pace_few}
use Rattle.small_system.specs.Meanings.{Means, Lawful}
use Rattle.small_system.specs.Tales.{Moment, Turn, start_of, moment_after, IsTale, entry_of, journal_of}
use Rattle.small_system.specs.Standing.{Begins, Holds, IsLawful}
use Rattle.small_system.specs.Shows.{Shown, IsTold}
use Rattle.small_system.proofs.Telling.{start_small, turn_holds, told_holds}
use Rattle.player_kit.proofs.Listing.{get_case}

-- A tale's journal is lawful: at each moment each actor made few calls since its last mark.

-- who isn't there made no calls
nobody_since : (rows : List QueueRow) (actors a : ℕ) (before es : List Entry) → ((n : ℕ) (row : QueueRow) → slice_get rows n ≡ Some row → (r : Role) → owner_of row r < actors) → actors ≤ a → EachFrom (LegalEntry nobody (start_history rows) rows) before es → since_from no_drops a [] es ≡ []
nobody_since rows actors a before [] peers le l = refl
nobody_since rows actors a before (e ∷ es) peers le l =
    let lt : e.actor.0 < actors = subst (λ n. n < actors) l.0.legal.caller.some.1 (peers e.event.queue.0 l.0.row l.0.there l.0.legal.caller.some.0) in
    let off : (e.actor.0 == a) ≡ false = eqb_apart e.actor.0 a (λ h. absurd (omega (arith, lt, le, h))) in
    rw off (nobody_since rows actors a (before ++ e ∷ []) es peers le l.1)

few_holds : {A : Type 0} (m : Means A) (rows : List QueueRow) (mo : Moment A) (passed : Passed) (journal : List Entry) → Holds m rows mo passed journal → AreFew nobody rows no_drops journal
few_holds m rows mo passed journal h a calm r n = elim (get_case mo.actors a) [
  | inl y ↦ pace_few (pendings (start_history rows) journal) (since no_drops a journal) (m.round y.0) (h.paced a y.0 y.1) r n
  | inr past ↦ let none : since no_drops a journal ≡ [] = nobody_since rows (length mo.actors) a [] journal h.peopled past h.legal in subst (λ es. calls_at r n es ≤ 8) (sym none) (omega arith)
]

module _ {A : Type 0} (m : Means A) (law : Lawful m) (rows : List QueueRow) where
  few_from : (mo : Moment A) (passed : Passed) (journal : List Entry) (ts : List (Turn A)) → Holds m rows mo passed journal → IsTale m mo ts → EachFrom (λ b e. AreFew nobody rows no_drops (b ++ e ∷ [])) journal (journal_of ts)
  few_from mo passed journal [] holds tale = tt
  few_from mo passed journal (t ∷ ts) holds tale =
      let next = turn_holds m law rows mo passed journal t holds tale.0 in
      (few_holds m rows (moment_after mo t) (with_deed passed t.deed) (journal ++ entry_of t ∷ []) next, few_from (moment_after mo t) (with_deed passed t.deed) (journal ++ entry_of t ∷ []) ts next tale.1)

  pub tale_lawful : (start : List A) (ts : List (Turn A)) → Begins m rows start → IsTale m (start_of rows start) ts → IsLawful rows (journal_of ts)
  tale_lawful start ts begins tale =
      let legal = (told_holds m law rows start ts begins tale).legal in
      let first = start_small m rows start begins in
      record {
        legal = legal;
        bells_hold = bells_hold nobody (start_history rows) rows (journal_of ts) (starts_hold nobody rows) legal;
        flows = queues_flow nobody (start_history rows) rows (journal_of ts) (starts_flow rows) legal;
        brisk = (few_holds m rows (start_of rows start) nothing_passed [] first, few_from (start_of rows start) nothing_passed [] ts first tale);
      }

pub lawful_now : {A : Type 0} (m : Means A) → Lawful m → (s : Shown A) → IsTold m s → IsLawful s.rows s.journal
lawful_now m law s told = subst (IsLawful s.rows) (sym told.told.journal) (tale_lawful m law s.rows s.start told.turns told.begins told.told.tale)

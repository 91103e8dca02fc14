use Rattle.std.proofs.Common.{◌≡◌, ◌<◌, ◌++◌, ℕ, List, [], ◌∷◌, Some, length, slice_get, refl, sym, ap, ◌∙◌, subst, arith}
use Rattle.wire_core.specs.declared.names.QueueRow.{QueueRow}
use Rattle.wire_core.specs.declared.names.Entry.{Entry}
use Rattle.wire_core.specs.Lists.{Passed, with_deed, nothing_passed}
use Rattle.wire_core.specs.Journal.{start_history, nobody, EachFrom, EachMoment, QueuesFlow, owner_of}
use Rattle.play_core.specs.Moved.{moved}
use Rattle.play_core.proofs.Lists.{there_is, there_below}
use Rattle.play_core.proofs.Moments.{each_moment}
use Rattle.owner_law.specs.Things.{Naming}
use Rattle.owner_law.specs.Owners.{AreCounted}
use Rattle.owner_law.specs.Keeping.{Keeper, Keeps, all_taken, all_put, AreKeepers, IsKept, IsOwned, IsShownBy, start_table}
use Rattle.small_system.specs.Meanings.{Means, Lawful}
use Rattle.small_system.specs.Tales.{Moment, Turn, start_of, moment_after, IsTale, entry_of, journal_of}
use Rattle.small_system.specs.Standing.{Begins, Holds}
use Rattle.small_system.proofs.Telling.{start_small, turn_holds, tale_count, tale_parts, items_shown}
use Rattle.small_system.proofs.Paced.{tale_lawful}
use Rattle.small_system.specs.SmallLaw.Keepers.{HaveKeepers}

-- Each actor puts only what was in its hand, at each moment of a tale.

module _ {A : Type 0} (m : Means A) (law : Lawful m) (naming : Naming) (lender : ℕ) (rows : List QueueRow) (start : List A) (keepers : List Keeper) (have : HaveKeepers m naming lender rows start keepers) where
  -- as many actors as at the start, each made of what it was made of then
  record Same (mo : Moment A) : Type 0 where
    pub size : length mo.actors ≡ length start
    pub parts : (k : ℕ) (x y : A) → slice_get start k ≡ Some x → slice_get mo.actors k ≡ Some y → m.part y ≡ m.part x

  same_after : (mo : Moment A) (t : Turn A) → Same mo → IsTale m mo (t ∷ []) → Same (moment_after mo t)
  same_after mo t same tale = record {
    size = tale_count m mo (t ∷ []) tale ∙ same.size;
    parts = λ k x z at after. let lt : k < length start = there_below start k x at in let n : length mo.actors ≡ length start = same.size in let y = there_is mo.actors k (omega (arith, lt, n)) in tale_parts m mo (t ∷ []) tale k y.0 z y.1 after ∙ same.parts k x y.0 at y.1;
  }

  -- each put only what was in its hand
  abbrev AllKeep : List Entry → Type 0
  AllKeep journal = (k : ℕ) (p : Keeper) → slice_get keepers k ≡ Some p → Keeps p.hand (all_taken naming (moved (start_history rows) journal) p.ends) (all_put naming (moved (start_history rows) journal) p.ends)

  keep_now : (mo : Moment A) (passed : Passed) (journal : List Entry) → Holds m rows mo passed journal → Same mo → AllKeep journal
  keep_now mo passed journal holds same k p at =
      let lt : k < length keepers = there_below keepers k p at in
      let n : length keepers ≡ length start = have.many in
      let x = there_is start k (omega (arith, lt, n)) in
      let s : length mo.actors ≡ length start = same.size in
      let y = there_is mo.actors k (omega (arith, lt, n, s)) in
      (have.each k x.0 p x.1 at).keeps y.0 (same.parts k x.0 y.0 x.1 y.1) (_, holds.fits k y.0 y.1) passed (holds.stands k y.0 y.1) (moved (start_history rows) journal) (items_shown m rows mo passed journal holds)

  keep_from : (mo : Moment A) (passed : Passed) (journal : List Entry) (ts : List (Turn A)) → Holds m rows mo passed journal → Same mo → IsTale m mo ts → EachFrom (λ b e. AllKeep (b ++ e ∷ [])) journal (journal_of ts)
  keep_from mo passed journal [] holds same tale = tt
  keep_from mo passed journal (t ∷ ts) holds same tale =
      let next = turn_holds m law rows mo passed journal t holds tale.0 in
      let after = same_after mo t same (tale.0, tt) in
      (keep_now (moment_after mo t) (with_deed passed t.deed) (journal ++ entry_of t ∷ []) next after, keep_from (moment_after mo t) (with_deed passed t.deed) (journal ++ entry_of t ∷ []) ts next after tale.1)

  module _ (turns : List (Turn A)) (begins : Begins m rows start) (tale : IsTale m (start_of rows start) turns) where
    same_start : Same (start_of rows start)
    same_start = record { size = refl; parts = λ k x y at there. ap m.part (some_is (sym there ∙ at)) }
      where
        some_is : {T : Type 0} {x y : T} → Some x ≡ Some y → x ≡ y
        some_is h = cc

    all_keep : EachMoment AllKeep (journal_of turns)
    all_keep = let first = start_small m rows start begins in (keep_now (start_of rows start) nothing_passed [] first same_start, keep_from (start_of rows start) nothing_passed [] turns first same_start tale)

    are_keepers : AreKeepers rows keepers
    are_keepers = record {
      seated = λ k p at i s there. let x = first_at k p at in begins.seated.given k x.0 x.1 s.role s.queue ((have.each k x.0 p x.1 at).given i s there);
      filled = λ k p at s seat. let x = first_at k p at in (have.each k x.0 p x.1 at).all s (begins.seated.all k x.0 x.1 s.role s.queue seat);
      apart = λ k p at. let x = first_at k p at in (have.each k x.0 p x.1 at).apart;
      peopled = λ n row at r. subst (λ i. owner_of row r < i) (sym have.many) (begins.peopled n row at r);
    }
      where
        first_at : (k : ℕ) (p : Keeper) → slice_get keepers k ≡ Some p → (x : A) × (slice_get start k ≡ Some x)
        first_at k p at = let lt : k < length keepers = there_below keepers k p at in let n : length keepers ≡ length start = have.many in there_is start k (omega (arith, lt, n))

    pub owned : (counted : AreCounted (start_table keepers)) → (shown : IsShownBy naming lender keepers (moved (start_history rows) []) (start_table keepers)) → IsOwned naming lender nobody (start_history rows) rows keepers (start_table keepers) (journal_of turns)
    owned counted shown =
        let lawful = tale_lawful m law rows start turns begins tale in
        record {
          naming_is = have.naming_is;
          keepers_are = are_keepers;
          legal = lawful.legal;
          kept = each_moment AllKeep (QueuesFlow (start_history rows) rows) (IsKept naming nobody (start_history rows) rows keepers) (λ j keeps flows. record {
            keeps = λ k p calm at. keeps k p at;
            flows = flows;
            answers = λ n q ws is. absurd (have.unanswered n q ws is);
          }) (journal_of turns) all_keep lawful.flows;
          counted = counted;
          shown = shown;
        }

-- Entries carry the pages that their items name at each moment of a tale, where each actor of a
-- class hands pages on.
use Rattle.std.proofs.Common.{◌≡◌, ◌<◌, ◌++◌, ℕ, List, [], ◌∷◌, Some, length, slice_get, append_assoc, append-nil, refl, sym, ap, ◌∙◌, subst, arith}
use Rattle.wire_core.specs.declared.names.QueueRow.{QueueRow}
use Rattle.wire_core.specs.declared.names.Entry.{Entry}
use Rattle.wire_core.specs.Ends.{Consumer, Producer, role_of}
use Rattle.wire_core.specs.Lists.{Passed, with_deed, nothing_passed}
use Rattle.wire_core.specs.Queues.{queue_at}
use Rattle.wire_core.specs.Journal.{start_history, owner_of}
use Rattle.play_core.specs.Moved.{Moved, moved}
use Rattle.play_core.specs.Sheets.{HaveTwoOwners}
use Rattle.play_core.specs.Wants.{intake, outlet}
use Rattle.play_core.proofs.Lists.{some_is, there_is, there_below}
use Rattle.owner_law.specs.Things.{Naming}
use Rattle.owner_law.specs.Keeping.{Keeper}
use Rattle.owner_law.specs.Pages.{CarryPages}
use Rattle.owner_law.specs.Pools.Handing.{HandsOn}
use Rattle.owner_law.proofs.PoolsLemmas.Handing.{carry_start, carry_step}
use Rattle.small_system.specs.Meanings.{Means, Lawful}
use Rattle.small_system.specs.Tales.{Moment, Turn, start_of, IsTurn, moment_after, IsTale, entry_of, journal_of, passed_from, passed_by}
use Rattle.small_system.specs.Standing.{Begins, Holds}
use Rattle.small_system.proofs.Posts.{own_call}
use Rattle.small_system.proofs.Telling.{start_small, turn_holds, tale_count, tale_parts}
use Rattle.small_system.specs.SmallLaw.Keepers.{HaveKeepers}

module _ {A : Type 0} (m : Means A) (law : Lawful m) (naming : Naming) (lender : ℕ) (rows : List QueueRow) (start : List A) (keepers : List Keeper) (begins : Begins m rows start) (have : HaveKeepers m naming lender rows start keepers) (two : HaveTwoOwners rows)
    (hands : (k : ℕ) (x : A) (p : Keeper) → slice_get start k ≡ Some x → slice_get keepers k ≡ Some p → (y : A) → m.part y ≡ m.part x → (passed : Passed) → m.StandsFor y passed → (moves : Moved) → HandsOn naming moves passed p.ends) where
  -- as many actors as at the start, each made of what it was made of then
  record Same (mo : Moment A) : Type 0 where
    pub size : length mo.actors ≡ length start
    pub parts : (k : ℕ) (x y : A) → slice_get start k ≡ Some x → slice_get mo.actors k ≡ Some y → m.part y ≡ m.part x

  same_after : (mo : Moment A) (t : Turn A) → Same mo → IsTurn m mo t → Same (moment_after mo t)
  same_after mo t same turn = record {
    size = tale_count m mo (t ∷ []) (turn, tt) ∙ same.size;
    parts = λ k x z at after. let lt : k < length start = there_below start k x at in let n : length mo.actors ≡ length start = same.size in let y = there_is mo.actors k (omega (arith, lt, n)) in tale_parts m mo (t ∷ []) (turn, tt) k y.0 z y.1 after ∙ same.parts k x y.0 at y.1;
  }

  carry_more : (mo : Moment A) (passed : Passed) (journal : List Entry) (t : Turn A) → Holds m rows mo passed journal → Same mo → IsTurn m mo t → CarryPages naming (moved (start_history rows) journal) passed → CarryPages naming (moved (start_history rows) (journal ++ entry_of t ∷ [])) (with_deed passed t.deed)
  carry_more mo passed journal t holds same turn carry =
      let next = turn_holds m law rows mo passed journal t holds turn in
      let after = same_after mo t same turn in
      let k = t.number in
      let lt : k < length mo.actors = there_below mo.actors k turn.old turn.there in
      let n : length mo.actors ≡ length start = same.size in
      let x = there_is start k (omega (arith, lt, n)) in
      let many : length keepers ≡ length start = have.many in
      let p = there_is keepers k (omega (arith, lt, n, many)) in
      let less : k < length (moment_after mo t).actors = let l = after.size in omega (arith, lt, n, l) in
      let y = there_is (moment_after mo t).actors k less in
      let keeper = have.each k x.0 p.0 x.1 p.1 in
      let call = own_call m turn.old t.actor t.deed.event turn.steps.turned in
      let seat = holds.seated.given k turn.old turn.there (role_of t.deed.event.op) t.deed.event.queue.0 call in
      carry_step naming (moved (start_history rows) journal) (moved (start_history rows) (journal ++ entry_of t ∷ [])) passed t.deed p.0.ends (record {
        carried = carry;
        sent = λ q. sym (next.shows_sent q);
        taken = λ q. sym (next.shows_taken q);
        begins = λ q. ((queue_at (moment_after mo t).world q).entries, sym (next.stands_there q));
        asked = λ q r ws is. absurd (have.unanswered q r ws is);
        own = keeper.all (record { queue = t.deed.event.queue.0; role = role_of t.deed.event.op }) (begins.seated.all k x.0 x.1 (role_of t.deed.event.op) t.deed.event.queue.0 seat);
        split = λ i j q in_ out.
            let a = begins.seated.given k x.0 x.1 Consumer q (keeper.given i (intake q) in_) in
            let b = begins.seated.given k x.0 x.1 Producer q (keeper.given j (outlet q) out) in
            let row : b.0 ≡ a.0 = some_is (sym b.1 ∙ a.1) in
            two q a.0 a.1 (a.2 ∙ sym (subst (λ r. owner_of r Producer ≡ k) row b.2));
        hands_on = hands k x.0 p.0 x.1 p.1 y.0 (after.parts k x.0 y.0 x.1 y.1) (with_deed passed t.deed) (next.stands k y.0 y.1) (moved (start_history rows) (journal ++ entry_of t ∷ []));
      })

  carry_from : (mo : Moment A) (passed : Passed) (journal : List Entry) (ts : List (Turn A)) → Holds m rows mo passed journal → Same mo → IsTale m mo ts → CarryPages naming (moved (start_history rows) journal) passed → CarryPages naming (moved (start_history rows) (journal ++ journal_of ts)) (passed_from passed ts)
  carry_from mo passed journal [] holds same tale carry = subst (λ j. CarryPages naming (moved (start_history rows) j) passed) (sym (append-nil journal)) carry
  carry_from mo passed journal (t ∷ ts) holds same tale carry =
      subst (λ j. CarryPages naming (moved (start_history rows) j) (passed_from (with_deed passed t.deed) ts)) (append_assoc journal (entry_of t ∷ []) (journal_of ts))
      (carry_from (moment_after mo t) (with_deed passed t.deed) (journal ++ entry_of t ∷ []) ts (turn_holds m law rows mo passed journal t holds tale.0) (same_after mo t same tale.0) tale.1 (carry_more mo passed journal t holds same tale.0 carry))

  pub tale_carries : (turns : List (Turn A)) → IsTale m (start_of rows start) turns → CarryPages naming (moved (start_history rows) (journal_of turns)) (passed_by turns)
  tale_carries turns tale = carry_from (start_of rows start) nothing_passed [] turns (start_small m rows start begins) (record { size = refl; parts = λ k x y at there. ap m.part (some_is (sym there ∙ at)) }) tale (carry_start naming rows)

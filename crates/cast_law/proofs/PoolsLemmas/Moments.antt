-- At each moment of a legal journal each queue has what is of its kind, where that is so at its end.
use Rattle.std.proofs.Common.{◌≡◌, ◌==◌, ◌++◌, ℕ, true, false, Bool, Option, Some, None, List, [], ◌∷◌, slice_get, refl, sym, ap, ◌∙◌, subst}
use Rattle.std.specs.Option.{option_to_list}
use Rattle.std.proofs.lemmas.Bool.{eqb-true}
use Rattle.std.proofs.lemmas.List.{append-nil, append_assoc}
use Rattle.cargo_core.specs.declared.item.Item.{Item}
use Rattle.wire_core.specs.declared.names.QueueRow.{QueueRow}
use Rattle.wire_core.specs.declared.names.Entry.{Entry}
use Rattle.wire_core.specs.declared.names.Event.{Event}
use Rattle.wire_core.specs.declared.names.Op.{Op}
use Rattle.wire_core.specs.declared.names.Op.TheVariants as Do
use Rattle.wire_core.specs.Journal.{History, Hostiles, Track, EachFrom, EachMoment, LegalEntry, LegalJournal, history_at, if_on, sent_after, track, track_after}
use Rattle.wire_core.proofs.Tracks.{track_from-append}
use Rattle.owner_law.proofs.Carrying.{get_first}
use Rattle.cast_law.specs.Pools.Pooling.{IsKindly, AreKindly}

-- what goes to a queue stays there
sent_first : (xs : List Item) (o : Op) (new : List Item) (j : ℕ) (i : Item) → slice_get xs j ≡ Some i → slice_get (sent_after xs o new) j ≡ Some i
sent_first xs Do.Put new j i at = get_first xs new j i at
sent_first xs Do.Take new j i at = at
sent_first xs Do.See new j i at = at
sent_first xs Do.Room new j i at = at
sent_first xs (Do.Ask s) new j i at = at
sent_first xs (Do.Waive s) new j i at = at
sent_first xs (Do.Wake s) new j i at = at
sent_first xs (Do.Wanted s) new j i at = at
sent_first xs (Do.Settle s) new j i at = at
sent_first xs (Do.Ring s) new j i at = at
sent_first xs (Do.Store w v) new j i at = at

-- a call leaves each queue as kindly as it found it
before_call : (o : Option QueueRow) (t : Track) (e : Event) (here : Bool) → (here ≡ true → o ≡ None → ⊥) → IsKindly o (if_on here (track_after t e) t).sent (if_on here (track_after t e) t).taken → IsKindly o t.sent t.taken
before_call o t e false there so = so
before_call None t e true there so = absurd (there refl refl)
before_call (Some row) t e true there so = λ j i at. so j i (sent_first t.sent e.op (option_to_list e.item) j i at)

module _ (hostile : Hostiles) (history : History) (rows : List QueueRow) where
  was_before : (before : List Entry) (e : Entry) → LegalEntry hostile history rows before e → AreKindly history rows (before ++ e ∷ []) → AreKindly history rows before
  was_before before e legal so n =
      before_call (slice_get rows n) (track history n before) e.event (e.event.queue.0 == n) off
      (subst (λ (t : Track). IsKindly (slice_get rows n) t.sent t.taken) (track_from-append (history_at history n) n before e) (so n))
    where
      off : (e.event.queue.0 == n) ≡ true → slice_get rows n ≡ None → ⊥
      off here none = let at : slice_get rows n ≡ Some legal.row = ap (slice_get rows) (sym (eqb-true e.event.queue.0 n here)) ∙ legal.there in cc

  all_back : (before es : List Entry) → EachFrom (LegalEntry hostile history rows) before es → AreKindly history rows (before ++ es) → AreKindly history rows before × EachFrom (λ b e. AreKindly history rows (b ++ e ∷ [])) before es
  all_back before [] legal so = (subst (AreKindly history rows) (append-nil before) so, tt)
  all_back before (e ∷ es) legal so =
      let next = all_back (before ++ e ∷ []) es legal.1 (subst (AreKindly history rows) (sym (append_assoc before (e ∷ []) es)) so) in
      (was_before before e legal.0 next.0, next)

  -- at each moment queues have what is of their kind, where they have it at the end
  pub each_kindly : (journal : List Entry) → LegalJournal hostile history rows journal → AreKindly history rows journal → EachMoment (AreKindly history rows) journal
  each_kindly journal legal so = all_back [] journal legal so

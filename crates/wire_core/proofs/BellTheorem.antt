use Rattle.std.proofs.Common.{◌≡◌, ◌==◌, ◌+◌, ◌<◌, ◌++◌, ℕ, Bool, true, false, Option, Some, List, [], ◌∷◌, length, length-append, slice_get, inl, inr, refl, sym, ap, ◌∙◌, subst, arith, zero, suc, append_assoc}
use Rattle.std.specs.Option.{option_to_list}
use Rattle.std.proofs.lemmas.Bool.{eqb-true, ltb-true}
use Rattle.cargo_core.specs.Lists.{IsPrefix}
use Rattle.cargo_core.specs.declared.item.Item.{Item}
use Rattle.wire_core.specs.declared.names.Entry.{Entry}
use Rattle.wire_core.specs.declared.names.QueueRow.{QueueRow}
use Rattle.wire_core.specs.declared.names.Side.TheVariants.{Forward, Backward}
use Rattle.wire_core.specs.declared.names.Op.{Op}
use Rattle.wire_core.specs.declared.names.Op.TheVariants as Do
use Rattle.wire_core.specs.declared.names.Answer.{Answer}
use Rattle.wire_core.specs.Ends.{role_of, Condition}
use Rattle.wire_core.specs.Queues.{Bells, bells_after, end_of, Finds, Tells}
use Rattle.wire_core.specs.declared.names.Event.{Event}
use Rattle.wire_core.specs.Journal.{Track, Tally, History, Hostiles, track, history_at, start_history, track_after, start_track, sent_after, taken_after, if_on, CarriesItem, Legal, LegalEntry, LegalJournal, EachFrom, EachMoment, TrackHolds, BellsHold, Flows, QueuesFlow, is_calm, is_sent, is_open}
use Rattle.wire_core.proofs.Tracks.{track_from-append}
use Rattle.wire_core.proofs.BellLemmas.{look_holds, ask_holds, waive_holds, wake_holds, wanted_holds, settle_holds, ring_holds, move_holds, beside_holds}

one_more : (xs : List Item) (i : Item) (item : Option Item) → item ≡ Some i → length xs + 1 ≡ length (xs ++ option_to_list item)
one_more xs i item e = rw (e, length-append xs (i ∷ [])) refl

module _ (row : QueueRow) (t : Track) (h : TrackHolds row t) where
  call_holds : (y z : Tally) (o : Op) (a : Answer) (item : Option Item) → Condition (end_of true row.kind t.bells (role_of o)) o → Tells (is_sent t) (is_open row t) t.bells o a → CarriesItem row.kind t o item → TrackHolds row (record { sent = sent_after t.sent o (option_to_list item); taken = taken_after t.taken o (option_to_list item); bells = bells_after t.bells o a; consumer = y; producer = z })
  call_holds y z Do.See a item c s m = record { forward = rw s (look_holds _ _ _ c h.forward); backward = h.backward }
  call_holds y z Do.Room a item c s m = record { forward = h.forward; backward = rw s (look_holds _ _ _ c h.backward) }
  call_holds y z Do.Take a item c s m = record { forward = beside_holds _ _ _ _ c.0 h.forward; backward = rw (← one_more t.taken m.0 item m.1) (move_holds _ _ _ _ c.2 h.backward) }
  call_holds y z Do.Put a item c s m = record { forward = rw (← one_more t.sent m.0 item m.1) (move_holds _ _ _ _ c.2 h.forward); backward = beside_holds _ _ _ _ c.0 h.backward }
  call_holds y z (Do.Ask Forward) a item c s m = record { forward = ask_holds _ _ _ h.forward; backward = h.backward }
  call_holds y z (Do.Ask Backward) a item c s m = record { forward = h.forward; backward = ask_holds _ _ _ h.backward }
  call_holds y z (Do.Waive Forward) a item c s m = record { forward = waive_holds _ _ _ h.forward; backward = h.backward }
  call_holds y z (Do.Waive Backward) a item c s m = record { forward = h.forward; backward = waive_holds _ _ _ h.backward }
  call_holds y z (Do.Wake Forward) a item c s m = record { forward = rw s (wake_holds _ _ _ _ refl h.forward); backward = h.backward }
  call_holds y z (Do.Wake Backward) a item c s m = record { forward = h.forward; backward = rw s (wake_holds _ _ _ _ refl h.backward) }
  call_holds y z (Do.Wanted Forward) a item c s m = record { forward = rw s (wanted_holds _ _ _ _ refl c h.forward); backward = h.backward }
  call_holds y z (Do.Wanted Backward) a item c s m = record { forward = h.forward; backward = rw s (wanted_holds _ _ _ _ refl c h.backward) }
  call_holds y z (Do.Settle Forward) a item c s m = record { forward = settle_holds _ _ _ c h.forward; backward = h.backward }
  call_holds y z (Do.Settle Backward) a item c s m = record { forward = h.forward; backward = settle_holds _ _ _ c h.backward }
  call_holds y z (Do.Ring Forward) a item c s m = record { forward = ring_holds _ _ _ c h.forward; backward = h.backward }
  call_holds y z (Do.Ring Backward) a item c s m = record { forward = h.forward; backward = ring_holds _ _ _ c h.backward }
  call_holds y z (Do.Store w v) a item c s m = absurd s

-- a call that meets its condition keeps the bells of its queue
pub event_holds : (row : QueueRow) (t : Track) (e : Event) → TrackHolds row t → Condition (end_of true row.kind t.bells (role_of e.op)) e.op → Tells (is_sent t) (is_open row t) t.bells e.op e.answer → CarriesItem row.kind t e.op e.item → TrackHolds row (track_after t e)
event_holds row t e h c s m = call_holds row t h _ _ e.op e.answer e.item c s m

-- a legal entry keeps them
pub entry_holds : (hostile : Hostiles) (row : QueueRow) (t : Track) (e : Entry) → is_calm hostile row ≡ true → TrackHolds row t → Legal hostile row t e → TrackHolds row (track_after t e.event)
entry_holds hostile row t e calm h l = event_holds row t e.event h l.condition (l.tells calm) l.carries

-- what holds of a queue's track and is kept by each legal entry of it holds of each queue's after one entry more
module _ (C : QueueRow → Type 0) (P : QueueRow → Track → Type 0) (hostile : Hostiles) (history : History) (rows : List QueueRow) (kept : (row : QueueRow) (t : Track) (e : Entry) → C row → P row t → Legal hostile row t e → P row (track_after t e.event)) where
  abbrev Now : List Entry → Type 0
  Now journal = (n : ℕ) (row : QueueRow) → slice_get rows n ≡ Some row → C row → P row (track history n journal)

  if_on_kept : (row : QueueRow) (t new : Track) (b : Bool) → P row t → (b ≡ true → P row new) → P row (if_on b new t)
  if_on_kept row t new true h f = f refl
  if_on_kept row t new false h f = h

  one_entry : (before : List Entry) (e : Entry) → Now before → LegalEntry hostile history rows before e → Now (before ++ e ∷ [])
  one_entry before e h l n row at calm =
      subst (P row) (sym (track_from-append (history_at history n) n before e))
      (if_on_kept row (track history n before) (track_after (track history n before) e.event) (e.event.queue.0 == n) (h n row at calm)
      (λ b. let same : e.event.queue.0 ≡ n = eqb-true e.event.queue.0 n b in
      let row_is : l.row ≡ row = some_is l.row row (sym l.there ∙ (ap (slice_get rows) same ∙ at)) in
      kept row (track history n before) e calm (h n row at calm) (subst (λ m. Legal hostile row (track history m before) e) same (subst (λ r. Legal hostile r (track history e.event.queue.0 before) e) row_is l.legal))))
    where
      some_is : (a b : QueueRow) → Some a ≡ Some b → a ≡ b
      some_is a b h = cc

  all_from : (before es : List Entry) → Now before → EachFrom (LegalEntry hostile history rows) before es → EachFrom (λ b e. Now (b ++ e ∷ [])) before es
  all_from before [] h l = tt
  all_from before (e ∷ es) h l = let now = one_entry before e h l.0 in (now, all_from (before ++ e ∷ []) es now l.1)

-- the bells hold at each moment of a legal journal, where they do at its beginning
pub bells_hold : (hostile : Hostiles) (history : History) (rows : List QueueRow) (journal : List Entry) → BellsHold hostile history rows [] → LegalJournal hostile history rows journal → EachMoment (BellsHold hostile history rows) journal
bells_hold hostile history rows journal h l = (h, all_from (λ row. is_calm hostile row ≡ true) TrackHolds hostile history rows (entry_holds hostile) [] journal h l)

-- the bells at the start
pub start_holds : (row : QueueRow) → TrackHolds row start_track
start_holds row = record { forward = record { signalled = λ w r. cc; asked = λ w. elim w [ inl e ↦ cc | inr e ↦ cc ]; counted = omega arith }; backward = record { signalled = λ w r. cc; asked = λ w. elim w [ inl e ↦ cc | inr e ↦ cc ]; counted = omega arith } }

starts_at : (rows : List QueueRow) (n : ℕ) → history_at (start_history rows) n ≡ start_track
starts_at [] n = refl
starts_at (row ∷ rows) zero = refl
starts_at (row ∷ rows) (suc n) = starts_at rows n

-- a history of start tracks
pub start_is : (rows : List QueueRow) (n : ℕ) → track (start_history rows) n [] ≡ start_track
start_is rows n = starts_at rows n

pub starts_hold : (hostile : Hostiles) (rows : List QueueRow) → BellsHold hostile (start_history rows) rows []
starts_hold hostile rows n row at calm = subst (TrackHolds row) (sym (start_is rows n)) (start_holds row)

-- the queues flow
next_taken : (taken rest : List Item) (i : Item) → slice_get (taken ++ rest) (length taken) ≡ Some i → IsPrefix (taken ++ i ∷ []) (taken ++ rest)
next_taken [] [] i h = cc
next_taken [] (x ∷ rest) i h = (rest, ap (λ y. y ∷ rest) (sym (some_item x i h)))
  where
    some_item : (a b : Item) → Some a ≡ Some b → a ≡ b
    some_item a b h = cc
next_taken (x ∷ taken) rest i h = let p = next_taken taken rest i h in (p.0, ap (λ xs. x ∷ xs) p.1)

take_begins : (taken sent : List Item) (i : Item) → IsPrefix taken sent → slice_get sent (length taken) ≡ Some i → IsPrefix (taken ++ i ∷ []) sent
take_begins taken sent i p h = subst (IsPrefix (taken ++ i ∷ [])) p.1 (next_taken taken p.0 i (subst (λ xs. slice_get xs (length taken) ≡ Some i) (sym p.1) h))

put_begins : (taken sent more : List Item) → IsPrefix taken sent → IsPrefix taken (sent ++ more)
put_begins taken sent more p = (p.0 ++ more, sym (append_assoc taken p.0 more) ∙ ap (λ xs. xs ++ more) p.1)

module _ (row : QueueRow) (t : Track) (h : Flows row t) where
  flow_call : (y z : Tally) (b : Bells) (o : Op) (a : Answer) (item : Option Item) → Finds (is_sent t) (is_open row t) o a → CarriesItem row.kind t o item → Flows row (record { sent = sent_after t.sent o (option_to_list item); taken = taken_after t.taken o (option_to_list item); bells = b; consumer = y; producer = z })
  flow_call y z b Do.Take a item s m = record { begins = rw m.1 (take_begins t.taken t.sent m.0 h.begins m.2); within = let l : length t.taken + 1 ≡ length (t.taken ++ option_to_list item) = one_more t.taken m.0 item m.1 in omega (arith, h.within, l) }
  flow_call y z b Do.Put a item s m = record { begins = put_begins t.taken t.sent (option_to_list item) h.begins; within = let l : length t.sent + 1 ≡ length (t.sent ++ option_to_list item) = one_more t.sent m.0 item m.1 in let r : length t.sent < length t.taken + row.capacity = ltb-true _ _ s in omega (arith, l, r) }
  flow_call y z b Do.See a item s m = record { begins = h.begins; within = h.within }
  flow_call y z b Do.Room a item s m = record { begins = h.begins; within = h.within }
  flow_call y z b (Do.Ask x) a item s m = record { begins = h.begins; within = h.within }
  flow_call y z b (Do.Waive x) a item s m = record { begins = h.begins; within = h.within }
  flow_call y z b (Do.Wake x) a item s m = record { begins = h.begins; within = h.within }
  flow_call y z b (Do.Wanted x) a item s m = record { begins = h.begins; within = h.within }
  flow_call y z b (Do.Settle x) a item s m = record { begins = h.begins; within = h.within }
  flow_call y z b (Do.Ring x) a item s m = record { begins = h.begins; within = h.within }
  flow_call y z b (Do.Store w v) a item s m = record { begins = h.begins; within = h.within }

pub entry_flows : (hostile : Hostiles) (row : QueueRow) (t : Track) (e : Entry) → Flows row t → Legal hostile row t e → Flows row (track_after t e.event)
entry_flows hostile row t e h l = flow_call row t h _ _ _ e.event.op e.event.answer e.event.item l.finds l.carries

pub queues_flow : (hostile : Hostiles) (history : History) (rows : List QueueRow) (journal : List Entry) → QueuesFlow history rows [] → LegalJournal hostile history rows journal → EachMoment (QueuesFlow history rows) journal
queues_flow hostile history rows journal h l = (h, each journal [] (all_from (λ row. Unit {0}) Flows hostile history rows (λ row t e u. entry_flows hostile row t e) [] journal (λ n row at u. h n row at) l))
  where
    each : (es before : List Entry) → EachFrom (λ b e. (n : ℕ) (row : QueueRow) → slice_get rows n ≡ Some row → Unit {0} → Flows row (track history n (b ++ e ∷ []))) before es → EachFrom (λ b e. QueuesFlow history rows (b ++ e ∷ [])) before es
    each [] before l = tt
    each (e ∷ es) before l = ((λ n row at. l.0 n row at tt), each es (before ++ e ∷ []) l.1)

pub start_flows : (row : QueueRow) → Flows row start_track
start_flows row = record { begins = ([], refl); within = omega arith }

pub starts_flow : (rows : List QueueRow) → QueuesFlow (start_history rows) rows []
starts_flow rows n row at = subst (Flows row) (sym (start_is rows n)) (start_flows row)

use Rattle.std.proofs.Common.{◌≡◌, ◌==◌, ◌&&◌, ◌+◌, ◌≤◌, ◌++◌, ℕ, Bool, true, false, Option, Some, List, [], ◌∷◌, length, length-append, slice_get, refl, sym, ap, ◌∙◌, subst, arith}
use Rattle.std.specs.Option.{option_to_list}
use Rattle.std.proofs.lemmas.Bool.{eqb-true}
use Rattle.std.proofs.lemmas.List.{append-nil}
use Rattle.std.proofs.Common.{append_assoc}
use Rattle.cargo_core.specs.declared.item.Item.{Item}
use Rattle.wire_core.specs.declared.names.BellState.{BellState}
use Rattle.wire_core.specs.declared.names.Entry.{Entry}
use Rattle.wire_core.specs.declared.names.QueueRow.{QueueRow}
use Rattle.wire_core.specs.declared.names.Side.TheVariants.{Forward, Backward}
use Rattle.wire_core.specs.declared.names.Op.{Op}
use Rattle.wire_core.specs.declared.names.Op.TheVariants as Do
use Rattle.wire_core.specs.declared.names.Answer.{Answer}
use Rattle.wire_core.specs.declared.names.Answer.TheVariants.{Done, Yes, No}
use Rattle.wire_core.specs.Bells.{bit, at_work}
use Rattle.wire_core.specs.Deeds.{answer_of}
use Rattle.wire_core.specs.Ends.{role_of, Condition, wanted_ringer}
use Rattle.wire_core.specs.Queues.{Bells, bells_after, end_of, Tells, waked}
use Rattle.wire_core.specs.Journal.{Track, History, track, history_at, track_after, sent_after, taken_after, if_on, CarriesItem, Legal, LegalEntry, EachFrom, is_sent, is_open, Hostiles, is_calm}
use Rattle.wire_core.proofs.Tracks.{track_from-append}
use Rattle.wire_core.specs.Marks.{is_mark}

-- pending notifications and ringers at work
abbrev pub due : BellState → ℕ
due b = bit b.pending + at_work b.ringer

abbrev pub debt : Bells → ℕ
debt b = due b.forward + due b.backward

-- twice what was put and taken
abbrev pub rich : List Item → List Item → ℕ
rich sent taken = length sent + length taken + (length sent + length taken)

one_more : (xs : List Item) (i : Item) (item : Option Item) → item ≡ Some i → length (xs ++ option_to_list item) ≡ length xs + 1
one_more xs i item e = rw (e, length-append xs (i ∷ [])) refl

work_most : (b : BellState) → 0 ≤ at_work b.ringer
work_most b = omega arith

woken_pays : (b : BellState) (p : Bool) → b.pending ≡ p → bit (is_mark (Do.Wake Forward) (answer_of p)) + due (waked b (answer_of p)) ≤ due b
woken_pays b true e = let h : bit b.pending ≡ 1 = ap bit e in omega (arith, h)
woken_pays b false e = omega arith

same_mark : (a : Answer) → is_mark (Do.Wake Backward) a ≡ is_mark (Do.Wake Forward) a
same_mark Yes = refl
same_mark No = refl
same_mark Done = refl

wanted_work : (a : Answer) → at_work (wanted_ringer a) ≤ 1
wanted_work Yes = omega arith
wanted_work No = omega arith
wanted_work Done = omega arith

module _ (row : QueueRow) (t : Track) where
  -- each mark is paid by what was put and taken, or by a notification
  call_pays : (o : Op) (a : Answer) (item : Option Item) → Condition (end_of true row.kind t.bells (role_of o)) o → Tells (is_sent t) (is_open row t) t.bells o a → CarriesItem row.kind t o item → bit (is_mark o a) + rich t.sent t.taken + debt (bells_after t.bells o a) ≤ rich (sent_after t.sent o (option_to_list item)) (taken_after t.taken o (option_to_list item)) + debt t.bells
  call_pays Do.See a item c s m = omega arith
  call_pays Do.Room a item c s m = omega arith
  call_pays Do.Take a item c s m = let l = one_more t.taken m.0 item m.1 in omega (arith, l)
  call_pays Do.Put a item c s m = let l = one_more t.sent m.0 item m.1 in omega (arith, l)
  call_pays (Do.Ask Forward) a item c s m = omega arith
  call_pays (Do.Ask Backward) a item c s m = omega arith
  call_pays (Do.Waive Forward) a item c s m = omega arith
  call_pays (Do.Waive Backward) a item c s m = omega arith
  call_pays (Do.Wake Forward) a item c s m = rw s (let h = woken_pays t.bells.forward t.bells.forward.pending refl in omega (arith, h))
  call_pays (Do.Wake Backward) a item c s m = rw s (let h = woken_pays t.bells.backward t.bells.backward.pending refl in let g = ap bit (same_mark (answer_of t.bells.backward.pending)) in omega (arith, h, g))
  call_pays (Do.Wanted Forward) a item c s m = let h : at_work t.bells.forward.ringer ≡ 1 = ap at_work c in let w = wanted_work a in omega (arith, h, w)
  call_pays (Do.Wanted Backward) a item c s m = let h : at_work t.bells.backward.ringer ≡ 1 = ap at_work c in let w = wanted_work a in omega (arith, h, w)
  call_pays (Do.Settle Forward) a item c s m = let h : at_work t.bells.forward.ringer ≡ 1 = ap at_work c in omega (arith, h)
  call_pays (Do.Settle Backward) a item c s m = let h : at_work t.bells.backward.ringer ≡ 1 = ap at_work c in omega (arith, h)
  call_pays (Do.Ring Forward) a item c s m = let h : at_work t.bells.forward.ringer ≡ 1 = ap at_work c in omega (arith, h)
  call_pays (Do.Ring Backward) a item c s m = let h : at_work t.bells.backward.ringer ≡ 1 = ap at_work c in omega (arith, h)
  call_pays (Do.Store w v) a item c s m = absurd s

-- the marks on queue n
abbrev pub marks_on : ℕ → List Entry → ℕ
marks_on n [] = 0
marks_on n (e ∷ es) = bit (e.event.queue.0 == n && is_mark e.event.op e.event.answer) + marks_on n es

some_is : (a b : QueueRow) → Some a ≡ Some b → a ≡ b
some_is a b h = cc

-- what a legal journal shows of one queue
module _ (hostile : Hostiles) (history : History) (rows : List QueueRow) (n : ℕ) (row : QueueRow) (at : slice_get rows n ≡ Some row) (calm : is_calm hostile row ≡ true) where
  entry_pays : (before : List Entry) (e : Entry) → LegalEntry hostile history rows before e → bit (e.event.queue.0 == n && is_mark e.event.op e.event.answer) + rich (track history n before).sent (track history n before).taken + debt (track history n (before ++ e ∷ [])).bells ≤ rich (track history n (before ++ e ∷ [])).sent (track history n (before ++ e ∷ [])).taken + debt (track history n before).bells
  entry_pays before e l = rw (track_from-append (history_at history n) n before e) (go (e.event.queue.0 == n) refl)
    where
      go : (b : Bool) → (e.event.queue.0 == n) ≡ b → bit (b && is_mark e.event.op e.event.answer) + rich (track history n before).sent (track history n before).taken + debt (if_on b (track_after (track history n before) e.event) (track history n before)).bells ≤ rich (if_on b (track_after (track history n before) e.event) (track history n before)).sent (if_on b (track_after (track history n before) e.event) (track history n before)).taken + debt (track history n before).bells
      go false h = omega arith
      go true h =
          let same : e.event.queue.0 ≡ n = eqb-true e.event.queue.0 n h in
          let row_is : l.row ≡ row = some_is l.row row (sym l.there ∙ (ap (slice_get rows) same ∙ at)) in
          let legal : Legal hostile row (track history n before) e = subst (λ m. Legal hostile row (track history m before) e) same (subst (λ r. Legal hostile r (track history e.event.queue.0 before) e) row_is l.legal) in
          call_pays row (track history n before) e.event.op e.event.answer e.event.item legal.condition (legal.tells calm) legal.carries

  pub journal_pays : (before es : List Entry) → EachFrom (LegalEntry hostile history rows) before es → marks_on n es + rich (track history n before).sent (track history n before).taken + debt (track history n (before ++ es)).bells ≤ rich (track history n (before ++ es)).sent (track history n (before ++ es)).taken + debt (track history n before).bells
  journal_pays before [] l = rw (append-nil before) omega arith
  journal_pays before (e ∷ es) l =
      let first = entry_pays before e l.0 in
      let rest = journal_pays (before ++ e ∷ []) es l.1 in
      let rest' = subst (λ j. marks_on n es + rich (track history n (before ++ e ∷ [])).sent (track history n (before ++ e ∷ [])).taken + debt (track history n j).bells ≤ rich (track history n j).sent (track history n j).taken + debt (track history n (before ++ e ∷ [])).bells) (append_assoc before (e ∷ []) es) rest in
      omega (arith, first, rest')

-- What one step of a hostile client is: a look, a put, a take or a store.
use Rattle.std.proofs.Common.{◌≡◌, ◌==◌, ◌<◌, ◌≤◌, ◌+◌, ◌-◌, ◌^◌, ◌++◌, ℕ, Bool, true, false, if◌then◌else◌, nat_lt, Some, None, List, [], ◌∷◌, length, length-append, drop, get_or, remove, slice_get, vec_len, vec_capacity, ◌⊎◌, inl, inr, refl, sym, ap, ◌∙◌, subst, arith, suc, zero, drop-cons}
use native.Mathlib.Numerals.{unary_clauses}
use Rattle.std.proofs.lemmas.Option.{slice_get_within, get_or_from_slice_get, slice_get-get_or}
use Rattle.std.proofs.Math.ListN.{drop_of_length-le}
use Rattle.std.proofs.lemmas.Bool.{ltb-true, ltb-false}
use Rattle.std.proofs.lemmas.List.{length-map, get_or_append_left}
use Rattle.std.proofs.Math.Seq.{get_or-append_right}
use Rattle.std.proofs.lemmas.List.Edits.{length-remove}
use Rattle.std.specs.Global.{Vec}
use Rattle.cargo_core.specs.declared.item.Body.{Body}
use Rattle.cargo_core.specs.declared.item.QueueKind.{QueueKind}
use Rattle.cargo_core.specs.declared.item.QueueKind.TheVariants as Kind
use Rattle.cargo_core.specs.Items.{kind_of}
use Rattle.wire_core.specs.declared.names.QueueId.{QueueId}
use Rattle.wire_core.specs.declared.names.Event.{Event}
use Rattle.wire_core.specs.declared.names.Op.{Op}
use Rattle.wire_core.specs.declared.names.Op.TheVariants as Do
use Rattle.cargo_core.specs.declared.act.Word.{Word}
use Rattle.wire_core.specs.declared.names.Answer.{Answer}
use Rattle.wire_core.specs.declared.names.Answer.TheVariants.{Done}
use Rattle.wire_core.specs.Ends.{Role, Consumer, Producer, End, Moves, Allows, is_yes}
use Rattle.wire_core.specs.Deeds.{Deed, Cargo, cargo_of, answer_of, look_deed, plain_deed, move_deed}
use Rattle.wire_core.specs.Lists.{Passed, with_deed, taken_by, put_by, if_there, if_taken, if_put}
use Rattle.cargo_core.specs.declared.act.Act.{Act}
use Rattle.cargo_core.specs.declared.act.Act.TheVariants as Acts
use Rattle.client_programs.specs.declared.rogue.Rogue.{Rogue}
use Rattle.turn_kit.specs.Hands.{bodies_at}
use Rattle.buffer_kit.specs.Conserving.{Count, weight, counted}
use Rattle.buffer_kit.proofs.Conserving.{counted-append}
use Rattle.buffer_kit.proofs.ManyClients.{none_if}
use Rattle.client_programs.specs.Rogue.Acts.{makes_call, next_acts, after_act, after_look, act_op, act_end, ItemFits, after_first, left_after, queue_of, is_done, is_none_left, IsNext, IsNextOf, IsCall, item_for}
use Rattle.client_programs.specs.Rogue.Clients.{Keeps, FitsEnd, FitsRogue, IsActOf, HasLook, IsRogueOp, RogueStandsFor, RogueStepped, SameRogue, IsAt, can_put, puts_at, left_of, ends_of, numbers, takes}
use Rattle.client_programs.proofs.RogueLemmas.Skipping.{stays, heads_call}
use Rattle.client_programs.proofs.RogueLemmas.Fitting.{inputs_fit, outputs_fit, at_input, at_output, not_clear}
use Rattle.client_programs.proofs.RogueLemmas.Counting.{at-with, at-none, at-one}

drop_here : (acts : List Act) (i : ℕ) (x : Act) → slice_get acts i ≡ Some x → drop i acts ≡ x ∷ drop (i + 1) acts
drop_here acts i x there = simp unary_clauses (drop-cons acts i x (slice_get_within acts i x there) ∙ ap (λ y. y ∷ drop (suc i) acts) (get_or_from_slice_get acts i x x there))

-- what is left out takes nothing
takes_next : (kept : ℕ) (xs : List Act) → takes (next_acts kept xs) ≡ takes xs
takes_next kept [] = refl
takes_next kept (Acts.Take k ∷ xs) = refl
takes_next kept (Acts.Put k a l ∷ xs) = refl
takes_next kept (Acts.Store k w v ∷ xs) = refl
takes_next kept (Acts.Give k p a l ∷ xs) = decide (takes_next kept xs) (nat_lt p kept)
  where
    decide : takes (next_acts kept xs) ≡ takes xs → (b : Bool) → takes (if b then Acts.Give k p a l ∷ xs else next_acts kept xs) ≡ takes xs
    decide e true = refl
    decide e false = e

-- a call that moves nothing
pub silent : (r new : Rogue) (d : Deed) (p : Passed) → if_taken d.event.op (cargo_of d) ≡ [] → if_put d.event.op (cargo_of d) ≡ [] → SameRogue r new → new.kept.items ≡ r.kept.items → RogueStandsFor r p → RogueStandsFor new (with_deed p d)
silent r new d p t s same kept h f =
    let ins = numbers r.inputs.items in
    let outs = numbers r.outputs.items in
    let none_in = at-none f (taken_by d) ins (λ n. ap (if_there (d.event.queue.0 == n)) t ∙ none_if (d.event.queue.0 == n)) in
    let none_out = at-none f (put_by d) outs (λ n. ap (if_there (d.event.queue.0 == n)) s ∙ none_if (d.event.queue.0 == n)) in
    rw (same.start, same.inputs, same.outputs, kept) (omega (arith, h f, at-with f p.taken (taken_by d) ins, at-with f p.sent (put_by d) outs, none_in, none_out))

number_at : (ends : List QueueId) (k : ℕ) (d : QueueId) → (get_or ends k d).0 ≡ get_or (numbers ends) k d.0
number_at [] k d = refl
number_at (q ∷ qs) zero d = refl
number_at (q ∷ qs) (suc k) d = number_at qs k d

module _ {W : Type 0} (ends : W → Role → ℕ → End) (did : W → Deed → W → Type 0) (w w' : W) (r : Rogue) (i : ℕ) (x : Act) (fits : FitsRogue (ends w) r) (at : IsAt r i x) where
  here : drop i r.acts.items ≡ x ∷ drop (i + 1) r.acts.items
  here = drop_here r.acts.items i x at.there

  next_is : next_acts (length r.kept.items) (drop r.next r.acts.items) ≡ x ∷ drop (i + 1) r.acts.items
  next_is = at.next ∙ here

  pub called : makes_call (length r.kept.items) x ≡ true
  called = heads_call (length r.kept.items) (drop r.next r.acts.items) x (drop (i + 1) r.acts.items) next_is

  within : i < length r.acts.items
  within = slice_get_within r.acts.items i x at.there

  taking : takes (x ∷ drop (i + 1) r.acts.items) ≡ takes (drop r.next r.acts.items)
  taking = ap takes (sym next_is) ∙ takes_next (length r.kept.items) (drop r.next r.acts.items)

  looked_is : HasLook (ends w) (ends_of r) r.looked (x ∷ drop (i + 1) r.acts.items)
  looked_is = subst (HasLook (ends w) (ends_of r) r.looked) next_is fits.look

  -- what it is after a call, whatever the call was
  module _ (new : Rogue) (e : Event) (same : SameRogue r new) (moves : Moves (ends w) e (ends w')) (op : IsRogueOp e.op) where
    fits_after : new.next ≤ length r.acts.items → vec_len new.kept + takes (drop new.next r.acts.items) ≤ vec_capacity new.kept → vec_len new.kept + takes (drop new.next r.acts.items) < 2 ^ 32
        → HasLook (ends w') (ends_of r) new.looked (next_acts (length new.kept.items) (drop new.next r.acts.items)) → FitsRogue (ends w') new
    fits_after place room few look = record {
      is = record {
        kind = rw same.kind fits.is.kind;
        place = rw same.acts place;
        acts = rw (same.acts, same.inputs, same.outputs) fits.is.acts;
        inputs = rw same.inputs fits.is.inputs;
        outputs = rw same.outputs fits.is.outputs;
        room = rw same.acts room;
        few = rw same.acts few;
      };
      inputs = rw same.inputs (inputs_fit (ends w) (ends w') e moves op r.inputs.items fits.inputs);
      outputs = rw (same.outputs, same.kind) (outputs_fit (ends w) (ends w') e moves op r.kind r.outputs.items fits.outputs);
      look = rw (same.inputs, same.outputs, same.acts) look;
    }

    next_after : IsCall r.kind (ends_of r) r.looked x e → IsNext r.kind (ends_of r) (left_of r) e
    next_after call = subst (λ xs. IsNextOf r.kind (ends_of r) r.looked xs e) (sym next_is) call

    plan_is : record { acts = drop new.next r.acts.items; looked = new.looked; kept = length new.kept.items } ≡ after_act r.looked x (drop (i + 1) r.acts.items) (length r.kept.items) e.answer → left_of new ≡ left_after (left_of r) e.answer
    plan_is same_plan = ap (λ (v : Vec Act). record { acts = drop new.next v.items; looked = new.looked; kept = length new.kept.items }) same.acts ∙ (same_plan ∙ sym (ap (λ xs. after_first r.looked (length r.kept.items) xs e.answer) next_is))

  -- a look
  module _ (o : Op) (b : Bool) (q : QueueId) (new : Rogue) (fresh : r.looked ≡ false) (queue : q.0 ≡ queue_of (ends_of r) (act_end x)) (is_op : act_op false x ≡ o) (op : IsRogueOp o)
      (no_take : (c : List Cargo) → if_taken o c ≡ []) (no_put : (c : List Cargo) → if_put o c ≡ [])
      (happened : did w (look_deed q o b) w') (moves : Moves (ends w) (look_deed q o b).event (ends w'))
      (same : SameRogue r new) (kept : new.kept ≡ r.kept) (looked : new.looked ≡ b) (next : new.next ≡ (if b then i else i + 1))
      (plans : (a : Answer) → after_act false x (drop (i + 1) r.acts.items) (length r.kept.items) a ≡ after_look x (drop (i + 1) r.acts.items) (length r.kept.items) a)
      (has : b ≡ true → HasLook (ends w') (ends_of r) true (x ∷ drop (i + 1) r.acts.items)) where
    place_after : (c : Bool) → new.next ≡ (if c then i else i + 1) → new.next ≤ length r.acts.items
    place_after true e = omega (arith, e, within)
    place_after false e = omega (arith, e, within)

    fewer : takes (drop (i + 1) r.acts.items) ≤ takes (x ∷ drop (i + 1) r.acts.items)
    fewer = one x
      where
        one : (y : Act) → takes (drop (i + 1) r.acts.items) ≤ takes (y ∷ drop (i + 1) r.acts.items)
        one (Acts.Take k) = omega arith
        one (Acts.Put k a l) = omega arith
        one (Acts.Give k p a l) = omega arith
        one (Acts.Store k z v) = omega arith

    room_after : (c : Bool) → new.next ≡ (if c then i else i + 1) → vec_len new.kept + takes (drop new.next r.acts.items) ≤ vec_capacity new.kept
    room_after true e = rw (kept, e, here) (omega (arith, fits.is.room, taking))
    room_after false e = rw (kept, e) (omega (arith, fits.is.room, taking, fewer))

    few_after : (c : Bool) → new.next ≡ (if c then i else i + 1) → vec_len new.kept + takes (drop new.next r.acts.items) < 2 ^ 32
    few_after true e = rw (kept, e, here) (omega (arith, fits.is.few, taking))
    few_after false e = rw (kept, e) (omega (arith, fits.is.few, taking, fewer))

    look_after : (c : Bool) → b ≡ c → new.next ≡ (if c then i else i + 1) → HasLook (ends w') (ends_of r) c (next_acts (length new.kept.items) (drop new.next r.acts.items))
    look_after true e n = rw (kept, n, here) (subst (HasLook (ends w') (ends_of r) true) (sym (stays (length r.kept.items) x (drop (i + 1) r.acts.items) called)) (has e))
    look_after false e n = tt

    plan_here : (c : Bool) → b ≡ c → new.next ≡ (if c then i else i + 1) → record { acts = drop new.next r.acts.items; looked = c; kept = length new.kept.items } ≡ after_look x (drop (i + 1) r.acts.items) (length r.kept.items) (answer_of c)
    plan_here true e n = rw (kept, n, here) refl
    plan_here false e n = rw (kept, n) refl

    pub look_steps : RogueStepped ends did w w' r new (look_deed q o b).event
    look_steps = record {
      fits = fits_after new (look_deed q o b).event same moves op (place_after b next) (room_after b next) (few_after b next) (rw looked (look_after b refl next));
      acted = record { next = next_after new (look_deed q o b).event same moves op (rw fresh (record { queue = queue; op = sym is_op; item = refl })); after = plan_is new (look_deed q o b).event same moves op (rw (looked, fresh) (plan_here b refl next ∙ sym (plans (answer_of b)))); op = op };
      same = same;
      stepped = record { body = None; happened = happened; kept = λ p h. silent r new (look_deed q o b) p (no_take (cargo_of (look_deed q o b))) (no_put (cargo_of (look_deed q o b))) same (ap (λ (v : Vec Body). v.items) kept) h };
      keeps = subst (λ t. Keeps t (next_acts (length r.kept.items) (drop r.next r.acts.items)) r.kept.items None new.kept.items) (sym fresh) (ap (λ (v : Vec Body). v.items) kept);
    }

  -- where an end stands among the inputs, and among the outputs
  input_number : (k : ℕ) → k < length r.inputs.items → queue_of (ends_of r) k ≡ get_or (numbers r.inputs.items) k 0
  input_number k h = ap (λ (q : QueueId). q.0) (get_or_append_left r.inputs.items r.outputs.items (record { 0 = 0 }) k h) ∙ number_at r.inputs.items k (record { 0 = 0 })

  output_number : (k : ℕ) → length r.inputs.items ≤ k → queue_of (ends_of r) k ≡ get_or (numbers r.outputs.items) (k - length r.inputs.items) 0
  output_number k h = ap (λ (q : QueueId). q.0) (get_or-append_right r.inputs.items r.outputs.items k (record { 0 = 0 }) h) ∙ number_at r.outputs.items (k - length r.inputs.items) (record { 0 = 0 })

  many : (qs : List QueueId) → length (numbers qs) ≡ length qs
  many qs = simp length-map

  act_fits : IsActOf (length r.inputs.items) (length r.inputs.items + length r.outputs.items) x
  act_fits = subst (IsActOf (length r.inputs.items) (length r.inputs.items + length r.outputs.items)) (get_or_from_slice_get r.acts.items i x x at.there) (fits.is.acts i x within)

  -- an entry is put
  module _ (c : Cargo) (q : QueueId) (new : Rogue) (used : r.looked ≡ true) (queue : q.0 ≡ queue_of (ends_of r) (act_end x)) (is_op : act_op true x ≡ Do.Put)
      (inside : (length r.inputs.items ≤ act_end x) × (act_end x < length r.inputs.items + length r.outputs.items)) (item : ItemFits r.kind true x (Some c.0))
      (happened : did w (move_deed q Do.Put c) w') (moves : Moves (ends w) (move_deed q Do.Put c).event (ends w'))
      (same : SameRogue r new) (looked : new.looked ≡ false) (next : new.next ≡ i + 1)
      (counts : (f : Count) → counted f r.kept.items ≡ weight f c.1 + counted f new.kept.items) (len : vec_len new.kept ≤ vec_len r.kept) (cap : vec_capacity r.kept ≤ vec_capacity new.kept)
      (plans : after_act true x (drop (i + 1) r.acts.items) (length r.kept.items) Done ≡ record { acts = drop (i + 1) r.acts.items; looked = false; kept = length new.kept.items })
      (fewer : takes (drop (i + 1) r.acts.items) ≤ takes (x ∷ drop (i + 1) r.acts.items)) (moved : Keeps true (x ∷ drop (i + 1) r.acts.items) r.kept.items (Some c.1) new.kept.items) where
    put_stands : (p : Passed) → RogueStandsFor r p → RogueStandsFor new (with_deed p (move_deed q Do.Put c))
    put_stands p h f =
        let d = move_deed q Do.Put c in
        let ins = numbers r.inputs.items in
        let outs = numbers r.outputs.items in
        let none_in = at-none f (taken_by d) ins (λ n. none_if (q.0 == n)) in
        let place : q.0 ≡ get_or outs (act_end x - length r.inputs.items) 0 = queue ∙ output_number (act_end x) inside.0 in
        let short : act_end x - length r.inputs.items < length outs = omega (arith, inside.0, inside.1, many r.outputs.items) in
        let one : counted f (bodies_at (put_by d) outs) ≡ weight f c.1 + 0 = subst (λ m. counted f (bodies_at (λ n. if_there (m == n) (c ∷ [])) outs) ≡ weight f c.1 + 0) (sym place) (at-one f (c ∷ []) 0 outs (act_end x - length r.inputs.items) fits.is.outputs short) in
        rw (same.start, same.inputs, same.outputs) (omega (arith, h f, at-with f p.taken (taken_by d) ins, at-with f p.sent (put_by d) outs, none_in, one, counts f))

    pub put_steps : RogueStepped ends did w w' r new (move_deed q Do.Put c).event
    put_steps = record {
      fits = fits_after new (move_deed q Do.Put c).event same moves tt (omega (arith, next, within)) (rw next (omega (arith, fits.is.room, taking, fewer, len, cap))) (rw next (omega (arith, fits.is.few, taking, fewer, len))) (rw looked tt);
      acted = record { next = next_after new (move_deed q Do.Put c).event same moves tt (rw used (record { queue = queue; op = sym is_op; item = item })); after = plan_is new (move_deed q Do.Put c).event same moves tt (rw (looked, next, used) (sym plans)); op = tt };
      same = same;
      stepped = record { body = Some c.1; happened = happened; kept = put_stands };
      keeps = subst (λ t. Keeps t (next_acts (length r.kept.items) (drop r.next r.acts.items)) r.kept.items (Some c.1) new.kept.items) (sym used) (subst (λ xs. Keeps true xs r.kept.items (Some c.1) new.kept.items) (sym next_is) moved);
    }

-- an entry is taken
module _ {W : Type 0} (ends : W → Role → ℕ → End) (did : W → Deed → W → Type 0) (w w' : W) (r : Rogue) (i k : ℕ) (fits : FitsRogue (ends w) r) (at : IsAt r i (Acts.Take k))
    (c : Cargo) (q : QueueId) (new : Rogue) (used : r.looked ≡ true) (queue : q.0 ≡ queue_of (ends_of r) k)
    (happened : did w (move_deed q Do.Take c) w') (moves : Moves (ends w) (move_deed q Do.Take c).event (ends w'))
    (same : SameRogue r new) (looked : new.looked ≡ false) (next : new.next ≡ i + 1)
    (items : new.kept.items ≡ r.kept.items ++ c.1 ∷ []) (len : vec_len new.kept ≡ vec_len r.kept + 1) (cap : vec_capacity r.kept ≤ vec_capacity new.kept) where
  is_input : k < length r.inputs.items
  is_input = act_fits ends did w w' r i (Acts.Take k) fits at

  take_stands : (p : Passed) → RogueStandsFor r p → RogueStandsFor new (with_deed p (move_deed q Do.Take c))
  take_stands p h f =
      let d = move_deed q Do.Take c in
      let ins = numbers r.inputs.items in
      let outs = numbers r.outputs.items in
      let none_out = at-none f (put_by d) outs (λ n. none_if (q.0 == n)) in
      let place : q.0 ≡ get_or ins k 0 = queue ∙ input_number ends did w w' r i (Acts.Take k) fits at k is_input in
      let short : k < length ins = omega (arith, is_input, many ends did w w' r i (Acts.Take k) fits at r.inputs.items) in
      let one : counted f (bodies_at (taken_by d) ins) ≡ weight f c.1 + 0 = subst (λ m. counted f (bodies_at (λ n. if_there (m == n) (c ∷ [])) ins) ≡ weight f c.1 + 0) (sym place) (at-one f (c ∷ []) 0 ins k fits.is.inputs short) in
      rw (same.start, same.inputs, same.outputs, items) (omega (arith, h f, at-with f p.taken (taken_by d) ins, at-with f p.sent (put_by d) outs, none_out, one, counted-append f r.kept.items (c.1 ∷ [])))

  pub take_steps : RogueStepped ends did w w' r new (move_deed q Do.Take c).event
  take_steps = record {
    fits = fits_after ends did w w' r i (Acts.Take k) fits at new (move_deed q Do.Take c).event same moves tt (omega (arith, next, within ends did w w' r i (Acts.Take k) fits at)) (rw next (omega (arith, fits.is.room, taking ends did w w' r i (Acts.Take k) fits at, len, cap))) (rw next (omega (arith, fits.is.few, taking ends did w w' r i (Acts.Take k) fits at, len))) (rw looked tt);
    acted = record { next = next_after ends did w w' r i (Acts.Take k) fits at new (move_deed q Do.Take c).event same moves tt (rw used (record { queue = queue; op = refl; item = tt })); after = plan_is ends did w w' r i (Acts.Take k) fits at new (move_deed q Do.Take c).event same moves tt (rw (looked, next, used, items, length-append r.kept.items (c.1 ∷ [])) refl); op = tt };
    same = same;
    stepped = record { body = Some c.1; happened = happened; kept = take_stands };
    keeps = subst (λ t. Keeps t (next_acts (length r.kept.items) (drop r.next r.acts.items)) r.kept.items (Some c.1) new.kept.items) (sym used) (subst (λ xs. Keeps true xs r.kept.items (Some c.1) new.kept.items) (sym (next_is ends did w w' r i (Acts.Take k) fits at)) items);
  }

-- a word is stored
module _ {W : Type 0} (ends : W → Role → ℕ → End) (did : W → Deed → W → Type 0) (w w' : W) (r : Rogue) (i k : ℕ) (word : Word) (v : ℕ) (fits : FitsRogue (ends w) r) (at : IsAt r i (Acts.Store k word v))
    (q : QueueId) (new : Rogue) (queue : q.0 ≡ queue_of (ends_of r) k)
    (happened : did w (plain_deed q (Do.Store word v)) w') (moves : Moves (ends w) (plain_deed q (Do.Store word v)).event (ends w'))
    (same : SameRogue r new) (looked : new.looked ≡ r.looked) (next : new.next ≡ i + 1) (kept : new.kept ≡ r.kept) where
  no_look : (b : Bool) → HasLook (ends w) (ends_of r) b (Acts.Store k word v ∷ drop (i + 1) r.acts.items) → b ≡ false
  no_look true h = absurd h
  no_look false h = refl

  fresh : r.looked ≡ false
  fresh = no_look r.looked (looked_is ends did w w' r i (Acts.Store k word v) fits at)

  item_none : (b : Bool) → ItemFits r.kind b (Acts.Store k word v) None
  item_none true = refl
  item_none false = refl

  plan_kept : (b : Bool) → after_act b (Acts.Store k word v) (drop (i + 1) r.acts.items) (length r.kept.items) Done ≡ record { acts = drop (i + 1) r.acts.items; looked = b; kept = length r.kept.items }
  plan_kept true = refl
  plan_kept false = refl

  pub store_steps : RogueStepped ends did w w' r new (plain_deed q (Do.Store word v)).event
  store_steps = record {
    fits = fits_after ends did w w' r i (Acts.Store k word v) fits at new (plain_deed q (Do.Store word v)).event same moves tt (omega (arith, next, within ends did w w' r i (Acts.Store k word v) fits at)) (rw (next, kept) (omega (arith, fits.is.room, taking ends did w w' r i (Acts.Store k word v) fits at))) (rw (next, kept) (omega (arith, fits.is.few, taking ends did w w' r i (Acts.Store k word v) fits at))) (rw (looked, fresh) tt);
    acted = record { next = next_after ends did w w' r i (Acts.Store k word v) fits at new (plain_deed q (Do.Store word v)).event same moves tt (record { queue = queue; op = refl; item = item_none r.looked }); after = plan_is ends did w w' r i (Acts.Store k word v) fits at new (plain_deed q (Do.Store word v)).event same moves tt (rw (looked, next, kept) (sym (plan_kept r.looked))); op = tt };
    same = same;
    stepped = record { body = None; happened = happened; kept = λ p h. silent r new (plain_deed q (Do.Store word v)) p refl refl same (ap (λ (z : Vec Body). z.items) kept) h };
    keeps = subst (λ t. Keeps t (next_acts (length r.kept.items) (drop r.next r.acts.items)) r.kept.items None new.kept.items) (sym fresh) (ap (λ (z : Vec Body). z.items) kept);
  }

-- a look that answers yes stands at its end
pub see_looked : (old new : Role → ℕ → End) (q : QueueId) (b : Bool) → Moves old (look_deed q Do.See b).event new → b ≡ true → (new Consumer q.0).looked ≡ true
see_looked old new q b moves e = ap (λ (x : End). x.looked) moves.this ∙ ap (λ c. is_yes (answer_of c)) e

pub room_looked : (old new : Role → ℕ → End) (q : QueueId) (b : Bool) → Moves old (look_deed q Do.Room b).event new → b ≡ true → (new Producer q.0).looked ≡ true
room_looked old new q b moves e = ap (λ (x : End). x.looked) moves.this ∙ ap (λ c. is_yes (answer_of c)) e

-- of acts that put
pub putting_end : (x : Act) (end : ℕ) → puts_at x end → act_end x ≡ end
putting_end (Acts.Take k) end h = absurd h
putting_end (Acts.Put k a l) end h = h
putting_end (Acts.Give k p a l) end h = h
putting_end (Acts.Store k w v) end h = absurd h

pub putting_op : (x : Act) (end : ℕ) → puts_at x end → act_op false x ≡ Do.Room
putting_op (Acts.Take k) end h = absurd h
putting_op (Acts.Put k a l) end h = refl
putting_op (Acts.Give k p a l) end h = refl
putting_op (Acts.Store k w v) end h = absurd h

pub putting_plan : (x : Act) (end : ℕ) → puts_at x end → (xs : List Act) (kept : ℕ) (a : Answer) → after_act false x xs kept a ≡ after_look x xs kept a
putting_plan (Acts.Take k) end h xs kept a = refl
putting_plan (Acts.Put k y l) end h xs kept a = refl
putting_plan (Acts.Give k p y l) end h xs kept a = refl
putting_plan (Acts.Store k w v) end h xs kept a = absurd h

pub putting_look : (ends : Role → ℕ → End) (queues : List QueueId) (x : Act) (end : ℕ) (xs : List Act) → puts_at x end → (ends Producer (queue_of queues end)).looked ≡ true → HasLook ends queues true (x ∷ xs)
putting_look ends queues (Acts.Take k) end xs h e = absurd h
putting_look ends queues (Acts.Put k a l) end xs h e = subst (λ n. (ends Producer (queue_of queues n)).looked ≡ true) (sym h) e
putting_look ends queues (Acts.Give k p a l) end xs h e = subst (λ n. (ends Producer (queue_of queues n)).looked ≡ true) (sym h) e
putting_look ends queues (Acts.Store k w v) end xs h e = absurd h

-- which call may be made, and of which kind
module _ (ends : Role → ℕ → End) (r : Rogue) (i : ℕ) (x : Act) (fits : FitsRogue ends r) (at : IsAt r i x) where
  open_look : HasLook ends (ends_of r) r.looked (x ∷ drop (i + 1) r.acts.items)
  open_look = subst (HasLook ends (ends_of r) r.looked) (at.next ∙ drop_here r.acts.items i x at.there) fits.look

  pub look_at : r.looked ≡ true → HasLook ends (ends_of r) true (x ∷ drop (i + 1) r.acts.items)
  look_at used = subst (λ b. HasLook ends (ends_of r) b (x ∷ drop (i + 1) r.acts.items)) used open_look

  pub calls_at : makes_call (length r.kept.items) x ≡ true
  calls_at = heads_call (length r.kept.items) (drop r.next r.acts.items) x (drop (i + 1) r.acts.items) (at.next ∙ drop_here r.acts.items i x at.there)

  pub named_at : IsActOf (length r.inputs.items) (length r.inputs.items + length r.outputs.items) x
  named_at = subst (IsActOf (length r.inputs.items) (length r.inputs.items + length r.outputs.items)) (get_or_from_slice_get r.acts.items i x x at.there) (fits.is.acts i x (slice_get_within r.acts.items i x at.there))

-- an end from which it takes, and one to which it puts
pub input_allows : (ends : Role → ℕ → End) (r : Rogue) (k q : ℕ) → FitsRogue ends r → k < length r.inputs.items → q ≡ queue_of (ends_of r) k → (ends Consumer (queue_of (ends_of r) k)).looked ≡ true → Allows (ends Consumer q) Do.Take
input_allows ends r k q fits h same looked =
    let f = at_input (λ n. FitsEnd (ends Consumer n)) r.inputs.items r.outputs.items k fits.inputs h in
    subst (λ n. Allows (ends Consumer n) Do.Take) (sym same) (record { owned = f.owned; condition = (not_clear (ends Consumer (queue_of (ends_of r) k)).waiter f.waiter, looked, f.ringer) })

pub output_allows : (ends : Role → ℕ → End) (r : Rogue) (k q : ℕ) → FitsRogue ends r → length r.inputs.items ≤ k → k < length r.inputs.items + length r.outputs.items → q ≡ queue_of (ends_of r) k → (ends Producer (queue_of (ends_of r) k)).looked ≡ true → Allows (ends Producer q) Do.Put
output_allows ends r k q fits l h same looked =
    let f = at_output (λ n. FitsEnd (ends Producer n) × ((ends Producer n).kind ≡ r.kind)) r.inputs.items r.outputs.items k fits.outputs l h in
    subst (λ n. Allows (ends Producer n) Do.Put) (sym same) (record { owned = f.0.owned; condition = (not_clear (ends Producer (queue_of (ends_of r) k)).waiter f.0.waiter, looked, f.0.ringer) })

pub output_kind : (ends : Role → ℕ → End) (r : Rogue) (k q : ℕ) → FitsRogue ends r → length r.inputs.items ≤ k → k < length r.inputs.items + length r.outputs.items → q ≡ queue_of (ends_of r) k → (ends Producer q).kind ≡ r.kind
output_kind ends r k q fits l h same =
    let f = at_output (λ n. FitsEnd (ends Producer n) × ((ends Producer n).kind ≡ r.kind)) r.inputs.items r.outputs.items k fits.outputs l h in
    subst (λ n. (ends Producer n).kind ≡ r.kind) (sym same) f.1

pub kind_sent : (kind : QueueKind) (a l : ℕ) → can_put kind ≡ true → kind_of (item_for kind a l) ≡ kind
kind_sent Kind.Net a l h = refl
kind_sent Kind.Byte a l h = refl
kind_sent Kind.Req a l h = refl
kind_sent Kind.Resp a l h = cc

-- there is room for an entry that is taken
pub room_at : (ends : Role → ℕ → End) (r : Rogue) (i k : ℕ) → FitsRogue ends r → IsAt r i (Acts.Take k) → vec_len r.kept < vec_capacity r.kept
room_at ends r i k fits at =
    let e : takes (Acts.Take k ∷ drop (i + 1) r.acts.items) ≡ takes (drop r.next r.acts.items) = ap takes (sym (at.next ∙ drop_here r.acts.items i (Acts.Take k) at.there)) ∙ takes_next (length r.kept.items) (drop r.next r.acts.items) in
    omega (arith, fits.is.room, e)

-- one entry less is kept after a give
pub given_plan : (k p a l : ℕ) (xs : List Act) (old new : List Body) → p < length old → new ≡ remove old p → after_act true (Acts.Give k p a l) xs (length old) Done ≡ record { acts = xs; looked = false; kept = length new }
given_plan k p a l xs old new h items =
    let e : length (remove old p) + 1 ≡ length old = length-remove old p h in
    let n : length new ≡ length (remove old p) = ap length items in
    let f : length old - 1 ≡ length new = omega (arith, e, n) in
    ap (λ m. record { acts = xs; looked = false; kept = m }) f

below : (m n : ℕ) → (m < n) ⊎ (n ≤ m)
below m n = decide (nat_lt m n) refl
  where
    decide : (b : Bool) → nat_lt m n ≡ b → (m < n) ⊎ (n ≤ m)
    decide true e = inl (ltb-true m n e)
    decide false e = inr (ltb-false m n e)

-- where the next act stands
pub next_at : (r : Rogue) (i : ℕ) (x y : Act) → next_acts (length r.kept.items) (drop r.next r.acts.items) ≡ drop i r.acts.items → is_done (left_of r) ≡ false → i ≤ length r.acts.items → y ≡ get_or r.acts.items i y → y ≡ x → IsAt r i x
next_at r i x y next going le is same =
    let there : i < length r.acts.items = short (below i (length r.acts.items)) in
    record { next = next; there = slice_get-get_or r.acts.items i y there ∙ ap Some (sym is ∙ same) }
  where
    short : (i < length r.acts.items) ⊎ (length r.acts.items ≤ i) → i < length r.acts.items
    short (inl h) = h
    short (inr h) = let e : is_done (left_of r) ≡ true = ap is_none_left (next ∙ drop_of_length-le r.acts.items h) in absurd (clash (sym e ∙ going))
      where
        clash : true ≡ false → ⊥
        clash h = cc

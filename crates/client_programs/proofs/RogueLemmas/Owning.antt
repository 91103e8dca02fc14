-- The next call of a hostile client is at one of its ends, or stores a word of a queue of which it
-- has an end.
use Rattle.std.proofs.Common.{◌≡◌, ◌⊎◌, ◌<◌, ◌≤◌, ◌+◌, ◌-◌, ◌++◌, ℕ, Bool, true, false, if◌then◌else◌, nat_lt, Some, List, [], ◌∷◌, length, All, drop, get_or, slice_get, inl, inr, refl, sym, ap, ◌∙◌, subst, arith, zero, suc}
use Rattle.std.proofs.lemmas.Bool.{ltb-true, ltb-false}
use Rattle.std.proofs.lemmas.Option.{slice_get-get_or}
use Rattle.std.proofs.lemmas.List.{get_or_append_left}
use Rattle.std.proofs.Math.Seq.{get_or-append_right}
use Rattle.cargo_core.specs.declared.act.Act.{Act}
use Rattle.cargo_core.specs.declared.act.Act.TheVariants as Acts
use Rattle.wire_core.specs.declared.names.QueueId.{QueueId}
use Rattle.wire_core.specs.declared.names.Event.{Event}
use Rattle.wire_core.specs.declared.names.Op.{Op}
use Rattle.wire_core.specs.declared.names.Op.TheVariants as Do
use Rattle.wire_core.specs.Ends.{Role, Consumer, Producer, role_of}
use Rattle.wire_core.specs.Queues.{is_store}
use Rattle.client_programs.specs.declared.rogue.Rogue.{Rogue}
use Rattle.client_programs.specs.Rogue.Acts.{makes_call, next_acts, act_op, act_end, queue_of, IsCall, IsNext, IsNextOf}
use Rattle.client_programs.specs.Rogue.Clients.{IsRogue, IsActOf, IsOwnCall, RogueEnd, ends_of, left_of}

-- what holds of all of a list holds of all from a place on, and of the acts that aren't left out
pub all_drop : (P : Act → Type 0) (xs : List Act) (n : ℕ) → All P xs → All P (drop n xs)
all_drop P xs zero all = all
all_drop P [] (suc n) all = all
all_drop P (x ∷ xs) (suc n) all = all_drop P xs n (λ k d h. all (suc k) d (omega (arith, h)))

pub all_next : (P : Act → Type 0) (kept : ℕ) (xs : List Act) → All P xs → All P (next_acts kept xs)
all_next P kept [] all = all
all_next P kept (x ∷ xs) all = decide (all_next P kept xs (λ k d h. all (suc k) d (omega (arith, h)))) (makes_call kept x)
  where
    decide : All P (next_acts kept xs) → (b : Bool) → All P (if b then x ∷ xs else next_acts kept xs)
    decide rest true = all
    decide rest false = rest

module _ (r : Rogue) where
  pub an_input : (k n : ℕ) → k < length r.inputs.items → n ≡ queue_of (ends_of r) k → RogueEnd r Consumer n
  an_input k n h at =
      let q : QueueId = get_or r.inputs.items k (record { 0 = 0 }) in
      (k, q, slice_get-get_or r.inputs.items k (record { 0 = 0 }) h, at ∙ ap (λ (x : QueueId). x.0) (get_or_append_left r.inputs.items r.outputs.items (record { 0 = 0 }) k h))

  pub an_output : (k n : ℕ) → length r.inputs.items ≤ k → k < length r.inputs.items + length r.outputs.items → n ≡ queue_of (ends_of r) k → RogueEnd r Producer n
  an_output k n l h at =
      let j = k - length r.inputs.items in
      let q : QueueId = get_or r.outputs.items j (record { 0 = 0 }) in
      (j, q, slice_get-get_or r.outputs.items j (record { 0 = 0 }) (omega (arith, l, h)), at ∙ ap (λ (x : QueueId). x.0) (get_or-append_right r.inputs.items r.outputs.items k (record { 0 = 0 }) l))

  below : (m n : ℕ) → (m < n) ⊎ (n ≤ m)
  below m n = decide (nat_lt m n) refl
    where
      decide : (b : Bool) → nat_lt m n ≡ b → (m < n) ⊎ (n ≤ m)
      decide true e = inl (ltb-true m n e)
      decide false e = inr (ltb-false m n e)

  an_end : (k n : ℕ) → k < length r.inputs.items + length r.outputs.items → n ≡ queue_of (ends_of r) k → (role : Role) × RogueEnd r role n
  an_end k n h at = decide (below k (length r.inputs.items))
    where
      decide : (k < length r.inputs.items) ⊎ (length r.inputs.items ≤ k) → (role : Role) × RogueEnd r role n
      decide (inl l) = (Consumer, an_input k n l at)
      decide (inr l) = (Producer, an_output k n l h at)

  at_op : (op : Op) (o : Op) (n : ℕ) → op ≡ o → RogueEnd r (role_of o) n → RogueEnd r (role_of op) n
  at_op op o n same h = subst (λ x. RogueEnd r (role_of x) n) (sym same) h

  of_act : (x : Act) (looked : Bool) (e : Event) → IsActOf (length r.inputs.items) (length r.inputs.items + length r.outputs.items) x → IsCall r.kind (ends_of r) looked x e → IsOwnCall r e
  of_act (Acts.Take k) true e a c = inl (at_op e.op Do.Take e.queue.0 c.op (an_input k e.queue.0 a c.queue))
  of_act (Acts.Take k) false e a c = inl (at_op e.op Do.See e.queue.0 c.op (an_input k e.queue.0 a c.queue))
  of_act (Acts.Put k x l) true e a c = inl (at_op e.op Do.Put e.queue.0 c.op (an_output k e.queue.0 a.0 a.1 c.queue))
  of_act (Acts.Put k x l) false e a c = inl (at_op e.op Do.Room e.queue.0 c.op (an_output k e.queue.0 a.0 a.1 c.queue))
  of_act (Acts.Give k p x l) true e a c = inl (at_op e.op Do.Put e.queue.0 c.op (an_output k e.queue.0 a.0 a.1 c.queue))
  of_act (Acts.Give k p x l) false e a c = inl (at_op e.op Do.Room e.queue.0 c.op (an_output k e.queue.0 a.0 a.1 c.queue))
  of_act (Acts.Store k w v) looked e a c = let end = an_end k e.queue.0 a c.queue in inr (rw c.op refl, end.0, end.1)

  pub own_call : (e : Event) → IsRogue r → IsNext r.kind (ends_of r) (left_of r) e → IsOwnCall r e
  own_call e is next =
      of_list (next_acts (length r.kept.items) (drop r.next r.acts.items)) (all_next (IsActOf (length r.inputs.items) (length r.inputs.items + length r.outputs.items)) (length r.kept.items) (drop r.next r.acts.items) (all_drop (IsActOf (length r.inputs.items) (length r.inputs.items + length r.outputs.items)) r.acts.items r.next is.acts)) next
    where
      of_list : (xs : List Act) → All (IsActOf (length r.inputs.items) (length r.inputs.items + length r.outputs.items)) xs → IsNextOf r.kind (ends_of r) r.looked xs e → IsOwnCall r e
      of_list [] all n = absurd n
      of_list (x ∷ xs) all n = of_act x r.looked e (all 0 x (omega arith)) n

-- The calls of a hostile client leave each of its ends as it asks.
use Rattle.std.proofs.Common.{◌≡◌, ◌≢◌, ◌⊎◌, ◌<◌, ◌≤◌, ◌+◌, ◌++◌, ◌-◌, ℕ, true, false, List, length, All, get_or, inl, inr, refl, sym, ◌∙◌, subst, arith}
use Rattle.std.proofs.Math.Dec.{eqb}
use Rattle.std.proofs.lemmas.Bool.Decides.{eqb_tells}
use Rattle.std.proofs.lemmas.List.{get_or_append_left}
use Rattle.std.proofs.Math.Seq.{get_or-append_right}
use Rattle.cargo_core.specs.declared.item.QueueKind.{QueueKind}
use Rattle.wire_core.specs.declared.names.QueueId.{QueueId}
use Rattle.wire_core.specs.declared.names.Event.{Event}
use Rattle.wire_core.specs.declared.names.Op.{Op}
use Rattle.wire_core.specs.declared.names.Op.TheVariants as Do
use Rattle.wire_core.specs.declared.names.Answer.{Answer}
use Rattle.wire_core.specs.declared.names.Waiter.{Waiter}
use Rattle.wire_core.specs.declared.names.Waiter.TheVariants as Wait
use Rattle.wire_core.specs.Ends.{Role, Consumer, Producer, End, Moves, role_of, end_after, is_busy_or_off, is_clear, looked_waiter}
use Rattle.client_programs.specs.Rogue.Acts.{queue_of}
use Rattle.client_programs.specs.Rogue.Clients.{FitsEnd, IsRogueOp}

looks_on : (w : Waiter) (a : Answer) → is_busy_or_off w ≡ true → is_busy_or_off (looked_waiter w a) ≡ true
looks_on Wait.Busy a h = refl
looks_on Wait.Off a h = refl
looks_on Wait.Asked a h = cc
looks_on Wait.Clear a h = cc

pub not_clear : (w : Waiter) → is_busy_or_off w ≡ true → is_clear w ≡ false
not_clear Wait.Busy h = refl
not_clear Wait.Off h = refl
not_clear Wait.Asked h = cc
not_clear Wait.Clear h = cc

-- its own calls leave an end as it asks
own_fits : (x : End) (o : Op) (a : Answer) → IsRogueOp o → FitsEnd x → FitsEnd (end_after x o a)
own_fits x Do.See a m f = record { owned = f.owned; waiter = looks_on x.waiter a f.waiter; ringer = f.ringer }
own_fits x Do.Room a m f = record { owned = f.owned; waiter = looks_on x.waiter a f.waiter; ringer = f.ringer }
own_fits x Do.Take a m f = record { owned = f.owned; waiter = f.waiter; ringer = refl }
own_fits x Do.Put a m f = record { owned = f.owned; waiter = f.waiter; ringer = refl }
own_fits x (Do.Store w v) a m f = f
own_fits x (Do.Ask s) a m f = absurd m
own_fits x (Do.Waive s) a m f = absurd m
own_fits x (Do.Wake s) a m f = absurd m
own_fits x (Do.Wanted s) a m f = absurd m
own_fits x (Do.Settle s) a m f = absurd m
own_fits x (Do.Ring s) a m f = absurd m

same_role : (r s : Role) → (r ≡ s) ⊎ (r ≡ s → ⊥)
same_role Consumer Consumer = inl refl
same_role Producer Producer = inl refl
same_role Consumer Producer = inr (λ h. cc)
same_role Producer Consumer = inr (λ h. cc)

same_number : (m n : ℕ) → (m ≡ n) ⊎ (m ≡ n → ⊥)
same_number m n = decide (eqb_tells m n)
  where
    decide : ((eqb m n ≡ true) × (m ≡ n)) ⊎ ((eqb m n ≡ false) × (m ≢ n)) → (m ≡ n) ⊎ (m ≡ n → ⊥)
    decide (inl h) = inl h.1
    decide (inr h) = inr h.1

module _ (old new : Role → ℕ → End) (e : Event) (moves : Moves old e new) (op : IsRogueOp e.op) where
  pub end_fits : (r : Role) (n : ℕ) → FitsEnd (old r n) → FitsEnd (new r n)
  end_fits r n f = by_role (same_role r (role_of e.op))
    where
      here : r ≡ role_of e.op → n ≡ e.queue.0 → FitsEnd (new r n)
      here s t = rw (s, t, moves.this) (own_fits (old (role_of e.op) e.queue.0) e.op e.answer op (subst (λ m. FitsEnd (old (role_of e.op) m)) t (subst (λ q. FitsEnd (old q n)) s f)))

      beside : (r ≡ role_of e.op → n ≡ e.queue.0 → ⊥) → FitsEnd (new r n)
      beside apart = rw (moves.others r n apart) f

      by_number : r ≡ role_of e.op → (n ≡ e.queue.0) ⊎ (n ≡ e.queue.0 → ⊥) → FitsEnd (new r n)
      by_number s (inl t) = here s t
      by_number s (inr apart) = beside (λ r t. apart t)

      by_role : (r ≡ role_of e.op) ⊎ (r ≡ role_of e.op → ⊥) → FitsEnd (new r n)
      by_role (inl s) = by_number s (same_number n e.queue.0)
      by_role (inr apart) = beside (λ s t. apart s)

  pub inputs_fit : (qs : List QueueId) → All (λ q. FitsEnd (old Consumer q.0)) qs → All (λ q. FitsEnd (new Consumer q.0)) qs
  inputs_fit qs all k d h = end_fits Consumer (get_or qs k d).0 (all k d h)

  pub outputs_fit : (k : QueueKind) (qs : List QueueId) → All (λ q. FitsEnd (old Producer q.0) × ((old Producer q.0).kind ≡ k)) qs → All (λ q. FitsEnd (new Producer q.0) × ((new Producer q.0).kind ≡ k)) qs
  outputs_fit kind qs all k d h = (end_fits Producer (get_or qs k d).0 (all k d h).0, moves.kinds Producer (get_or qs k d).0 ∙ (all k d h).1)

-- what holds of each input, and of each output, holds of the end of a number
pub at_input : (P : ℕ → Type 0) (inputs outputs : List QueueId) (k : ℕ) → All (λ q. P q.0) inputs → k < length inputs → P (queue_of (inputs ++ outputs) k)
at_input P inputs outputs k all h = subst (λ (q : QueueId). P q.0) (sym (get_or_append_left inputs outputs (record { 0 = 0 }) k h)) (all k (record { 0 = 0 }) h)

pub at_output : (P : ℕ → Type 0) (inputs outputs : List QueueId) (k : ℕ) → All (λ q. P q.0) outputs → length inputs ≤ k → k < length inputs + length outputs → P (queue_of (inputs ++ outputs) k)
at_output P inputs outputs k all l h = subst (λ (q : QueueId). P q.0) (sym (get_or-append_right inputs outputs k (record { 0 = 0 }) l)) (all (k - length inputs) (record { 0 = 0 }) (omega (arith, l, h)))

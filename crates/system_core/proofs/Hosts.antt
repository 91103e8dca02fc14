-- Which actors are hostile, and at which ends an actor calls.
use Rattle.std.proofs.Common.{◌≡◌, ◌≢◌, ◌⊎◌, ◌==◌, ◌&&◌, ℕ, Bool, true, false, not, Some, List, [], slice_get, inl, inr, refl, sym, ap, ◌∙◌, subst}
use Rattle.std.proofs.Math.Dec.{eqb}
use Rattle.std.proofs.lemmas.Bool.Decides.{eqb_tells}
use Rattle.wire_core.specs.declared.names.Answer.{Answer}
use Rattle.wire_core.specs.declared.names.Event.{Event}
use Rattle.wire_core.specs.declared.names.Op.{Op}
use Rattle.wire_core.specs.declared.names.Op.TheVariants as Do
use Rattle.wire_core.specs.Ends.{Role, Consumer, Producer, End, Moves, end_after, role_of}
use Rattle.wire_core.specs.declared.names.QueueRow.{QueueRow}
use Rattle.wire_core.specs.Journal.{Hostiles, is_calm, owner_of}
use Rattle.wire_core.specs.Deeds.{Cargo, Deed, cargo_of}
use Rattle.wire_core.specs.Lists.{if_put, if_taken, if_there, put_by, taken_by}
use Rattle.wire_core.specs.Queues.{is_store}
use Rattle.play_core.specs.Manners.{Calm, is_hostile}
use Rattle.client_programs.specs.declared.rogue.Rogue.{Rogue}
use Rattle.actor_set.specs.Parts.{Part}
use Rattle.actor_set.specs.Actors.{ActorEnd, IsActorCall, part_of}
use Rattle.actor_set.specs.declared.actor.Actor.{Actor}
use Rattle.actor_set.specs.declared.actor.Actor.TheVariants as Kinds
use Rattle.actor_set.specs.Laws.Kinds.{hostiles, manner_of}
use Rattle.actor_set.proofs.LawsLemmas.Calm.{manner_at}
use Rattle.actor_set.proofs.LawsLemmas.Rounds.{calm_or_rogue, own_is}

-- a hostile client is hostile, and an actor that isn't is calm
pub rogue_hostile : (cast : List Part) (k : ℕ) (x : Actor) (r : Rogue) → slice_get cast k ≡ Some (part_of x) → x ≡ Kinds.Rogue r → hostiles cast k ≡ true
rogue_hostile cast k x r at is = ap is_hostile (manner_at cast k (part_of x) at ∙ ap (λ y. manner_of (part_of y)) is)

pub calm_there : (cast : List Part) (k : ℕ) (x : Actor) → slice_get cast k ≡ Some (part_of x) → hostiles cast k ≡ false → manner_of (part_of x) ≡ Calm
calm_there cast k x at calm = elim (calm_or_rogue x) [
  | inl is ↦ is
  | inr r ↦ let no : true ≡ false = sym (rogue_hostile cast k x r.0 at r.1) ∙ calm in absurd cc
]

-- none of its queues is calm
pub hostile_end : (hostile : Hostiles) (row : QueueRow) (r : Role) (k : ℕ) → owner_of row r ≡ k → hostile k ≡ true → is_calm hostile row ≡ true → ⊥
hostile_end hostile row Consumer k own is calm = let here : hostile row.consumer.0 ≡ true = ap hostile own ∙ is in by (hostile row.producer.0) (hostile row.consumer.0) here calm
  where
    by : (a b : Bool) → b ≡ true → (not a && not b) ≡ true → ⊥
    by true true h e = cc
    by false true h e = cc
    by a false h e = cc
hostile_end hostile row Producer k own is calm = let here : hostile row.producer.0 ≡ true = ap hostile own ∙ is in by (hostile row.producer.0) (hostile row.consumer.0) here calm
  where
    by : (a b : Bool) → a ≡ true → (not a && not b) ≡ true → ⊥
    by true b h e = cc
    by false b h e = cc

pub rogue_is : (a b : Rogue) → Kinds.Rogue a ≡ Kinds.Rogue b → a ≡ b
rogue_is a b h = cc

-- whose part is that of a hostile client is one
pub rogue_was : (x : Actor) (r : Rogue) → part_of x ≡ part_of (Kinds.Rogue r) → (q : Rogue) × (x ≡ Kinds.Rogue q)
rogue_was x r part = elim (calm_or_rogue x) [
  | inl calm ↦ let no : Calm ≡ manner_of (part_of (Kinds.Rogue r)) = sym calm ∙ ap manner_of part in absurd cc
  | inr q ↦ q
]

-- an actor's call is at one of its ends; or it is a hostile one's store at a queue of which it has
-- an end
pub record CallsAt (x : Actor) (e : Event) : Type 0 where
  pub role : Role
  pub own : ActorEnd x role e.queue.0
  pub sort : ((manner_of (part_of x) ≡ Calm) ⊎ ((r : Rogue) × (x ≡ Kinds.Rogue r))) × ((role ≡ role_of e.op) ⊎ (is_store e.op ≡ true))

pub calls_at_end : (x : Actor) (e : Event) → IsActorCall x e → CallsAt x e
calls_at_end x e call = elim (calm_or_rogue x) [
  | inl calm ↦ record { role = role_of e.op; own = own_is x e calm call; sort = (inl calm, inl refl) }
  | inr r ↦ subst (λ y. IsActorCall y e → CallsAt y e) (sym r.1) (by r.0) call
]
  where
    by : (r : Rogue) → IsActorCall (Kinds.Rogue r) e → CallsAt (Kinds.Rogue r) e
    by r (inl own) = record { role = role_of e.op; own = own; sort = (inr (r, refl), inl refl) }
    by r (inr store) = record { role = store.1; own = store.2; sort = (inr (r, refl), inr store.0) }

-- a store changes no end, takes nothing and puts nothing
store_end : (x : End) (o : Op) (a : Answer) → is_store o ≡ true → end_after x o a ≡ x
store_end x (Do.Store w v) a is = refl
store_end x Do.See a is = cc
store_end x Do.Room a is = cc
store_end x Do.Take a is = cc
store_end x Do.Put a is = cc
store_end x (Do.Ask s) a is = cc
store_end x (Do.Waive s) a is = cc
store_end x (Do.Wake s) a is = cc
store_end x (Do.Wanted s) a is = cc
store_end x (Do.Settle s) a is = cc
store_end x (Do.Ring s) a is = cc

same_role : (a b : Role) → (a ≡ b) ⊎ (a ≡ b → ⊥)
same_role Consumer Consumer = inl refl
same_role Consumer Producer = inr (λ h. cc)
same_role Producer Consumer = inr (λ h. cc)
same_role Producer Producer = inl refl

pub store_moves : (old : Role → ℕ → End) (e : Event) (new : Role → ℕ → End) → Moves old e new → is_store e.op ≡ true → (r : Role) (n : ℕ) → new r n ≡ old r n
store_moves old e new moves store r n = by (same_role r (role_of e.op)) (eqb_tells e.queue.0 n)
  where
    by : (r ≡ role_of e.op) ⊎ (r ≡ role_of e.op → ⊥) → ((eqb e.queue.0 n ≡ true) × (e.queue.0 ≡ n)) ⊎ ((eqb e.queue.0 n ≡ false) × (e.queue.0 ≢ n)) → new r n ≡ old r n
    by (inl same) (inl at) = subst (λ m. new r m ≡ old r m) at.1 (subst (λ q. new q e.queue.0 ≡ old q e.queue.0) (sym same) (moves.this ∙ store_end (old (role_of e.op) e.queue.0) e.op e.answer store))
    by (inl same) (inr away) = moves.others r n (λ a b. away.1 (sym b))
    by (inr other) at = moves.others r n (λ a b. other a)

take_none : (b : Bool) (o : Op) (cs : List Cargo) → is_store o ≡ true → if_there b (if_taken o cs) ≡ []
take_none true (Do.Store w v) cs is = refl
take_none false (Do.Store w v) cs is = refl
take_none b Do.See cs is = cc
take_none b Do.Room cs is = cc
take_none b Do.Take cs is = cc
take_none b Do.Put cs is = cc
take_none b (Do.Ask s) cs is = cc
take_none b (Do.Waive s) cs is = cc
take_none b (Do.Wake s) cs is = cc
take_none b (Do.Wanted s) cs is = cc
take_none b (Do.Settle s) cs is = cc
take_none b (Do.Ring s) cs is = cc

put_none : (b : Bool) (o : Op) (cs : List Cargo) → is_store o ≡ true → if_there b (if_put o cs) ≡ []
put_none true (Do.Store w v) cs is = refl
put_none false (Do.Store w v) cs is = refl
put_none b Do.See cs is = cc
put_none b Do.Room cs is = cc
put_none b Do.Take cs is = cc
put_none b Do.Put cs is = cc
put_none b (Do.Ask s) cs is = cc
put_none b (Do.Waive s) cs is = cc
put_none b (Do.Wake s) cs is = cc
put_none b (Do.Wanted s) cs is = cc
put_none b (Do.Settle s) cs is = cc
put_none b (Do.Ring s) cs is = cc

pub store_takes : (d : Deed) (n : ℕ) → is_store d.event.op ≡ true → taken_by d n ≡ []
store_takes d n is = take_none (d.event.queue.0 == n) d.event.op (cargo_of d) is

pub store_puts : (d : Deed) (n : ℕ) → is_store d.event.op ≡ true → put_by d n ≡ []
store_puts d n is = put_none (d.event.queue.0 == n) d.event.op (cargo_of d) is

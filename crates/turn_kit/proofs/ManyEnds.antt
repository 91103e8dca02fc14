-- Several ends of one role, consuming or producing: where one moved, their queues stay, and all go on to agree.
use Rattle.std.proofs.Common.{◌≡◌, ◌≢◌, ◌⊎◌, ℕ, zero, suc, true, false, Some, List, [], ◌∷◌, map, slice_get, slice_set, refl, sym, ap, ◌∙◌, subst, inl, inr}
use Rattle.std.proofs.Math.Dec.{eqb}
use Rattle.std.proofs.lemmas.Bool.Decides.{eqb_tells}
use Rattle.wire_core.specs.declared.names.QueueId.{QueueId}
use Rattle.wire_core.specs.Ends.{Role, End}
use Rattle.wire_core.proofs.Places.{slice_get_written, slice_get_beside}
use Rattle.turn_kit.specs.Table.{Agrees}
use Rattle.turn_kit.specs.declared.end_state.EndState.{EndState}

some_eq : {X : Type 0} {a b : X} → Some a ≡ Some b → a ≡ b
some_eq h = cc

pub queue_of : {X : Type 0} (queue : X → QueueId) (xs : List X) (k : ℕ) (x : X) → slice_get xs k ≡ Some x → slice_get (map queue xs) k ≡ Some (queue x)
queue_of queue [] k x h = cc
queue_of queue (a ∷ xs) zero x h = ap (λ i. Some (queue i)) (some_eq h)
queue_of queue (a ∷ xs) (suc k) x h = queue_of queue xs k x h

pub same_queues : {X : Type 0} (queue : X → QueueId) (xs : List X) (k : ℕ) (x x' : X) → slice_get xs k ≡ Some x → queue x' ≡ queue x → map queue (slice_set xs k x') ≡ map queue xs
same_queues queue [] k x x' at same = refl
same_queues queue (a ∷ xs) zero x x' at same = ap (λ q. q ∷ map queue xs) (same ∙ ap queue (sym (some_eq at)))
same_queues queue (a ∷ xs) (suc k) x x' at same = ap (λ qs. queue a ∷ qs) (same_queues queue xs k x x' at same)

module _ {X : Type 0} (role : Role) (queue : X → QueueId) (state : X → EndState)
    (ends ends' : Role → ℕ → End) (xs : List X) (k : ℕ) (x x' : X)
    (here : slice_get xs k ≡ Some x) (same : queue x' ≡ queue x)
    (apart : (k j : ℕ) (q q' : QueueId) → slice_get (map queue xs) k ≡ Some q → slice_get (map queue xs) j ≡ Some q' → q.0 ≡ q'.0 → k ≡ j)
    (others : (r : Role) (n : ℕ) → (r ≡ role → n ≡ (queue x).0 → ⊥) → ends' r n ≡ ends r n) where
  abbrev AllAgree : (Role → ℕ → End) → List X → Type 0
  AllAgree e ys = (j : ℕ) (i : X) → slice_get ys j ≡ Some i → Agrees (e role (queue i).0) (state i)

  pub all_agree : AllAgree ends xs → Agrees (ends' role (queue x').0) (state x') → AllAgree ends' (slice_set xs k x')
  all_agree old new j i at = decide (eqb_tells j k)
    where
      decide : ((eqb j k ≡ true) × (j ≡ k)) ⊎ ((eqb j k ≡ false) × (j ≢ k)) → Agrees (ends' role (queue i).0) (state i)
      decide (inl eq) =
          let e : x' ≡ i = some_eq (sym (slice_get_written xs k x x' here) ∙ (ap (slice_get (slice_set xs k x')) (sym eq.1) ∙ at)) in
          subst (λ (y : X). Agrees (ends' role (queue y).0) (state y)) e new
      decide (inr ne) =
          let was : slice_get xs j ≡ Some i = sym (slice_get_beside xs k j x' ne.1) ∙ at in
          let away : role ≡ role → (queue i).0 ≡ (queue x).0 → ⊥ = λ r n. ne.1 (apart j k (queue i) (queue x) (queue_of queue xs j i was) (queue_of queue xs k x here) n) in
          subst (λ e. Agrees e (state i)) (sym (others role (queue i).0 away)) (old j i was)

-- Calls by which an actor did the same.
use Rattle.std.proofs.Common.{◌≡◌, ◌==◌, ◌&&◌, not, ℕ, Bool, true, false, cond, List, [], ◌∷◌, ◌++◌, refl, sym, ap, ◌∙◌, subst, inl, inr}
use Rattle.std.specs.List.{filter}
use Rattle.std.proofs.lemmas.Bool.{and_parts, eqb-true}
use Rattle.std.proofs.lemmas.List.{append-nil}
use Rattle.std.proofs.lemmas.List.Elements.{filter-append}
use Rattle.std.proofs.lemmas.Bool.Decides.{eqb_tells}
use Rattle.wire_core.specs.declared.names.Event.{Event}
use Rattle.wire_core.specs.Ends.{Role, Consumer, Producer, role_of}
use Rattle.wire_core.specs.Marks.{is_role}
use Rattle.wire_core.specs.Queues.{is_store}
use Rattle.actor_set.specs.Actors.{ActorEnd, ActsAlike}
use Rattle.actor_set.specs.declared.actor.Actor.{Actor}

pub role_same : (a b : Role) → is_role a b ≡ true → a ≡ b
role_same Consumer Consumer h = refl
role_same Producer Producer h = refl
role_same Consumer Producer h = cc
role_same Producer Consumer h = cc

role_self : (r : Role) → is_role r r ≡ true
role_self Consumer = refl
role_self Producer = refl

number_self : (n : ℕ) → (n == n) ≡ true
number_self n = elim (eqb_tells n n) [
  | inl t ↦ t.0
  | inr t ↦ absurd (t.1 refl)
]

not_no : (b : Bool) → not b ≡ false → b ≡ true
not_no true h = refl
not_no false h = cc

-- what isn't an actor's own leaves nothing
nothing_own : (own : Event → Bool) (calls : List Event) (e : Event) → own e ≡ false → filter own (calls ++ e ∷ []) ≡ filter own calls
nothing_own own calls e none = filter-append own calls (e ∷ []) ∙ (ap (λ es. filter own calls ++ es) (ap (λ b. cond b (e ∷ []) []) none) ∙ append-nil (filter own calls))

-- the same calls
pub alike_same : (x : Actor) (calls : List Event) → ActsAlike x calls calls
alike_same x calls = record { own = λ e. true; others = λ e not_own end. cc; same = refl }

-- with one call more, at none of its ends or a store
pub alike_more : (x : Actor) (calls : List Event) (e : Event) → (ActorEnd x (role_of e.op) e.queue.0 → is_store e.op ≡ true) → ActsAlike x calls (calls ++ e ∷ [])
alike_more x calls e other = by (is_store e.op) refl
  where
    by : (b : Bool) → is_store e.op ≡ b → ActsAlike x calls (calls ++ e ∷ [])
    by true store = record {
      own = λ f. not (is_store f.op);
      others = λ f not_own end. not_no (is_store f.op) not_own;
      same = nothing_own (λ f. not (is_store f.op)) calls e (ap not store);
    }
    by false plain = record {
      own = λ f. not (is_role (role_of f.op) (role_of e.op) && (f.queue.0 == e.queue.0));
      others = λ f not_own end.
          let here = and_parts (is_role (role_of f.op) (role_of e.op)) (f.queue.0 == e.queue.0) (not_no (is_role (role_of f.op) (role_of e.op) && (f.queue.0 == e.queue.0)) not_own) in
          let role : role_of f.op ≡ role_of e.op = role_same (role_of f.op) (role_of e.op) here.0 in
          let queue : f.queue.0 ≡ e.queue.0 = eqb-true f.queue.0 e.queue.0 here.1 in
          let bad : true ≡ false = sym (other (subst (λ r. ActorEnd x r e.queue.0) role (subst (λ n. ActorEnd x (role_of f.op) n) queue end))) ∙ plain in
          cc;
      same = nothing_own (λ f. not (is_role (role_of f.op) (role_of e.op) && (f.queue.0 == e.queue.0))) calls e (ap not (ap (λ b. b && (e.queue.0 == e.queue.0)) (role_self (role_of e.op)) ∙ number_self e.queue.0));
    }

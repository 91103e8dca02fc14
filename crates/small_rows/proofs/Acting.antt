use Rattle.std.proofs.Common.{◌≡◌, ◌&&◌, ◌||◌, ℕ, zero, suc, Bool, true, false, Some, List, [], ◌∷◌, map, slice_get, Result, Ok, Err, OnOk, refl, sym, ap, ◌∙◌, subst}
use Rattle.std.specs.List.{list_any}
use Rattle.cargo_core.specs.declared.memory.Memory.{Memory}
use Rattle.wire_core.specs.declared.names.Event.{Event}
use Rattle.wire_core.specs.Ends.{Role, End, waiting_role}
use Rattle.wire_core.specs.Lists.{Stepped}
use Rattle.wire_core.specs.Queues.{Queue, Happens}
use Rattle.turn_kit.specs.Dropping.{dropping}
use Rattle.turn_kit.specs.Table.{is_settled}
use Rattle.turn_kit.specs.Turns.{Post, Round, Turned, settled_all, is_at_rest}
use Rattle.play_core.specs.Moved.{Seat}
use Rattle.actor_set.specs.Actors.{FitsActor, ActorStandsFor, ActorTurned, actor_round, part_of}
use Rattle.actor_set.specs.declared.actor.Actor.{Actor}
use Rattle.actor_set.specs.StartStates.{HasApartEnds}
use Rattle.actor_set.proofs.LawsLemmas.Paces.{post_drops}
use Rattle.actor_set.proofs.LawsLemmas.Rounds.{turned_is}
use Rattle.actor_set.specs.Laws.Kinds.{manner_of, dropping_ends, has_seat}
use Rattle.order_law.proofs.EndedLemmas.Rounds.{fits_apart}
use Rattle.play_core.specs.Manners.{Calm}
use Rattle.small_system.specs.Meanings.{Acts}
use Rattle.small_rows.specs.declared.wrapping.Wrapped.{Wrapped}
use Rattle.small_rows.specs.Wrappings.{wrapped_means, waiting_round, IsWaiting}

-- A step of an actor in its wrapping is one that the player's trait asks for.

-- it rests where it does as it waits at each end
settled_waiting : (ps : List Post) (needs : List Bool) → settled_all (map (dropping false) ps) needs ≡ settled_all ps needs
settled_waiting [] needs = refl
settled_waiting (p ∷ ps) [] = refl
settled_waiting (p ∷ ps) (n ∷ ns) = ap (λ b. is_settled p.state n && b) (settled_waiting ps ns)

pub rests_waiting : (r : Round) → is_at_rest (waiting_round r) ≡ is_at_rest r
rests_waiting r = settled_waiting r.posts r.needs

-- ends at which nothing is dropped are those where it waits
all_waiting : (ps : List Post) → ((k : ℕ) (p : Post) → slice_get ps k ≡ Some p → p.drops ≡ false) → map (dropping false) ps ≡ ps
all_waiting [] h = refl
all_waiting (p ∷ ps) h = ap (λ (d : Bool). record p { drops = d } ∷ map (dropping false) ps) (sym (h zero p refl)) ∙ ap (λ (qs : List Post). p ∷ qs) (all_waiting ps (λ k q. h (suc k) q))

waits_at : (x : Actor) → HasApartEnds x → IsWaiting x → (k : ℕ) (p : Post) → slice_get (actor_round x).posts k ≡ Some p → p.drops ≡ false
waits_at x apart waits k p at = post_drops x k p apart at ∙ ap (λ (ss : List Seat). has_seat ss (waiting_role p.side) p.queue) waits

pub round_waits : (ends : Role → ℕ → End) (x : Actor) → FitsActor ends x → IsWaiting x → waiting_round (actor_round x) ≡ actor_round x
round_waits ends x fits waits = ap (λ (ps : List Post). record (actor_round x) { posts = ps }) (all_waiting (actor_round x).posts (waits_at x (fits_apart ends x fits) waits))

acts_so : (w v : List Queue) (before after : Role → ℕ → End) (x : Wrapped) (y : Actor) (e : Event) → wrapped_means.Fits before x → FitsActor after y → IsWaiting y → Stepped ActorStandsFor Happens w v x.actor y e → ActorTurned x.actor e y → part_of y ≡ part_of x.actor → Acts wrapped_means w v x (record { actor = y }) e
acts_so w v before after x y e fits fits' waits st turned part = record {
  body = st.body;
  happened = st.happened;
  steps = record {
    turned = subst (λ (r : Round). Turned r e (waiting_round (actor_round y))) (sym (round_waits before x.actor fits.0 fits.2)) (subst (λ (r : Round). Turned (actor_round x.actor) e r) (sym (round_waits after y fits' waits)) (turned_is x.actor y e fits.1 turned));
    kept = st.kept;
    part = part;
  };
}

pub wrapped_acts : {T : Type 0} (w v : List Queue) (before after : Role → ℕ → End) (x : Wrapped) (y : Actor) (e : Event) (r : Result T Memory) → wrapped_means.Fits before x → FitsActor after y → IsWaiting y → OnOk r (Stepped ActorStandsFor Happens w v x.actor y e) → OnOk r (ActorTurned x.actor e y) → part_of y ≡ part_of x.actor → OnOk r (Acts wrapped_means w v x (record { actor = y }) e)
wrapped_acts w v before after x y e (Ok u) fits fits' waits st turned part = acts_so w v before after x y e fits fits' waits st turned part
wrapped_acts w v before after x y e (Err m) fits fits' waits st turned part = tt

or_none : (a b : Bool) → (a || b) ≡ false → (a ≡ false) × (b ≡ false)
or_none true b h = cc
or_none false b h = (refl, h)

-- where no client's bytes may be dropped, no end drops
pub none_drop : (is : Bool → Bool) → is true ≡ true → (ds : List Bool) (qs : List ℕ) → list_any is ds ≡ false → dropping_ends qs ds ≡ []
none_drop is full ds [] h = refl
none_drop is full [] (q ∷ qs) h = refl
none_drop is full (true ∷ ds) (q ∷ qs) h = let bad : true ≡ false = sym full ∙ (or_none (is true) (list_any is ds) h).0 in cc
none_drop is full (false ∷ ds) (q ∷ qs) h = none_drop is full ds qs (or_none (is false) (list_any is ds) h).1

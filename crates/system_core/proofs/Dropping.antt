-- Where an actor drops, its looks in vain are drops of the system.
use Rattle.std.proofs.Common.{◌≡◌, ◌&&◌, ℕ, Bool, true, false, Option, Some, List, slice_get, refl, sym, ap, ◌∙◌}
use Rattle.std.specs.Option.{option_map_or}
use Rattle.wire_core.specs.declared.names.Event.{Event}
use Rattle.wire_core.specs.Ends.{Role, End, role_of}
use Rattle.wire_core.specs.Marks.{is_vain_look}
use Rattle.turn_kit.specs.Turns.{Post, Round, Turned, is_drop}
use Rattle.turn_kit.proofs.Roles.{role_posted}
use Rattle.actor_set.specs.Actors.{FitsActor, actor_round, part_of}
use Rattle.actor_set.specs.Laws.Kinds.{drop_seats, has_seat}
use Rattle.actor_set.specs.Parts.{Part}
use Rattle.actor_set.specs.declared.actor.Actor.{Actor}
use Rattle.actor_set.proofs.LawsLemmas.Paces.{post_drops}
use Rattle.order_law.proofs.EndedLemmas.Rounds.{fits_apart}
use Rattle.cast_bound.specs.Dropping.{drops_in}

and_swap : (a b : Bool) → (a && b) ≡ (b && a)
and_swap true true = refl
and_swap true false = refl
and_swap false true = refl
and_swap false false = refl

-- a turn of an actor that fits its ends is a drop where the end drops
pub drops_own : (cast : List Part) (k : ℕ) (ends : Role → ℕ → End) (x : Actor) (e : Event) (after : Round) → slice_get cast k ≡ Some (part_of x) → FitsActor ends x → (t : Turned (actor_round x) e after)
    → drops_in cast (record { actor = record { 0 = k }; event = e }) ≡ is_drop t.posted.post e
drops_own cast k ends x e after here fits t =
    let post : Post = t.posted.post in
    let vain : Bool = is_vain_look e.op e.answer in
    let drops = post_drops x t.place post (fits_apart ends x fits) t.posted.there in
    let role = role_posted post _ _ e t.posted.posted in
    let queue = t.posted.posted.queue in
    ap (λ (o : Option Part). vain && option_map_or (λ (p : Part). has_seat (drop_seats p) (role_of e.op) e.queue.0) o false) here
    ∙ ((λ i. vain && has_seat (drop_seats (part_of x)) (role i) (queue i))
    ∙ (ap (λ (b : Bool). vain && b) (sym drops) ∙ and_swap vain post.drops))

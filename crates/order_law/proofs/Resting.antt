-- What an actor at rest does: it only looks for a notification, or wants none.
use Rattle.std.proofs.Common.{◌≡◌, ◌⊎◌, ◌∙◌, ℕ, Bool, true, false, Option, inl, inr, refl, sym, ap, subst}
use Rattle.wire_core.specs.declared.names.Event.{Event}
use Rattle.wire_core.specs.declared.names.Side.{Side}
use Rattle.wire_core.specs.declared.names.Waiter.{Waiter}
use Rattle.wire_core.specs.declared.names.Waiter.TheVariants as Wait
use Rattle.wire_core.specs.declared.names.Ringer.{Ringer}
use Rattle.wire_core.specs.declared.names.Ringer.TheVariants as Rung
use Rattle.turn_kit.specs.Table.{next_of, is_settled}
use Rattle.turn_kit.specs.Turns.{Round, Turned, is_at_rest}
use Rattle.turn_kit.proofs.Turning.{rest_at}
use Rattle.play_core.specs.Manners.{Calm}
use Rattle.client_programs.specs.declared.rogue.Rogue.{Rogue}
use Rattle.actor_set.specs.Actors.{MayStep, actor_rests, actor_round, part_of}
use Rattle.actor_set.specs.Laws.Kinds.{manner_of}
use Rattle.actor_set.specs.declared.actor.Actor.TheVariants as Kinds
use Rattle.actor_set.specs.declared.actor.Actor.{Actor}
use Rattle.order_law.specs.Tales.{is_waiting}

settled_op : (r : Ringer) (w : Waiter) (l : Option Bool) (need : Bool) (s : Side) → is_settled (record { waiter = w; ringer = r; look = l }) need ≡ true → is_waiting (next_of r w need l s) ≡ true
settled_op Rung.Put w l need s h = cc
settled_op Rung.Hot w l need s h = cc
settled_op Rung.Ringing w l need s h = cc
settled_op Rung.Free Wait.Clear l need s h = refl
settled_op Rung.Free Wait.Off l false s h = refl
settled_op Rung.Free Wait.Busy l false s h = refl
settled_op Rung.Free Wait.Asked l false s h = refl
settled_op Rung.Free Wait.Off l true s h = cc
settled_op Rung.Free Wait.Busy l true s h = cc
settled_op Rung.Free Wait.Asked l true s h = cc

rested_op : (r : Round) (e : Event) (m : Round) → Turned r e m → is_at_rest r ≡ true → is_waiting e.op ≡ true
rested_op r e m t rest =
    let p = t.posted.post in
    ap is_waiting t.posted.posted.op ∙ settled_op p.state.ringer p.state.waiter p.state.look t.need p.side (rest_at r.posts r.needs t.place p t.need rest t.posted.there t.needed)

pub due : (x : Actor) (e : Event) (y : Actor) → Turned (actor_round x) e (actor_round y) → actor_rests x ≡ is_at_rest (actor_round x) → actor_rests x ≡ true → is_waiting e.op ≡ true
due x e y t is rest = rested_op (actor_round x) e (actor_round y) t (sym is ∙ rest)

-- a hostile client makes no call at rest
rogue_due : (wild : ℕ → Type 0) (x : Actor) (r : Rogue) (e : Event) → x ≡ Kinds.Rogue r → MayStep wild x → actor_rests x ≡ true → is_waiting e.op ≡ true
rogue_due wild x r e is may rest = let m = subst (MayStep wild) is may in let no : true ≡ false = sym (ap actor_rests (sym is) ∙ rest) ∙ m.0 in cc

pub due_any : (wild : ℕ → Type 0) (x : Actor) (e : Event) (y : Actor) → MayStep wild x → (manner_of (part_of x) ≡ Calm) ⊎ ((r : Rogue) × (x ≡ Kinds.Rogue r)) → (manner_of (part_of x) ≡ Calm → Turned (actor_round x) e (actor_round y)) → (manner_of (part_of x) ≡ Calm → actor_rests x ≡ is_at_rest (actor_round x)) → actor_rests x ≡ true → is_waiting e.op ≡ true
due_any wild x e y may (inl calm) turned is rest = due x e y (turned calm) (is calm) rest
due_any wild x e y may (inr r) turned is rest = rogue_due wild x r.0 e r.1 may rest

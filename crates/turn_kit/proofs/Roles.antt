use Rattle.std.proofs.Common.{◌≡◌, Bool, true, false, Option, Some, None, refl, ap, ◌∙◌}
use Rattle.wire_core.specs.declared.names.Event.{Event}
use Rattle.wire_core.specs.declared.names.Side.{Side}
use Rattle.wire_core.specs.declared.names.Side.TheVariants.{Forward, Backward}
use Rattle.wire_core.specs.declared.names.Waiter.{Waiter}
use Rattle.wire_core.specs.declared.names.Waiter.TheVariants as Wait
use Rattle.wire_core.specs.declared.names.Ringer.{Ringer}
use Rattle.wire_core.specs.declared.names.Ringer.TheVariants as Rung
use Rattle.wire_core.specs.Ends.{role_of, waiting_role}
use Rattle.turn_kit.specs.Table.{next_of, waiting_op}
use Rattle.turn_kit.specs.Turns.{Post, Posted}

-- the end of a call is that of its table
role_waiting : (w : Waiter) (need : Bool) (look : Option Bool) (s : Side) → role_of (waiting_op w need look s) ≡ waiting_role s
role_waiting Wait.Clear need look Forward = refl
role_waiting Wait.Off false look Forward = refl
role_waiting Wait.Busy false look Forward = refl
role_waiting Wait.Asked false look Forward = refl
role_waiting Wait.Asked true (Some true) Forward = refl
role_waiting Wait.Asked true (Some false) Forward = refl
role_waiting Wait.Asked true None Forward = refl
role_waiting Wait.Busy true (Some true) Forward = refl
role_waiting Wait.Busy true (Some false) Forward = refl
role_waiting Wait.Busy true None Forward = refl
role_waiting Wait.Off true (Some true) Forward = refl
role_waiting Wait.Off true (Some false) Forward = refl
role_waiting Wait.Off true None Forward = refl
role_waiting Wait.Clear need look Backward = refl
role_waiting Wait.Off false look Backward = refl
role_waiting Wait.Busy false look Backward = refl
role_waiting Wait.Asked false look Backward = refl
role_waiting Wait.Asked true (Some true) Backward = refl
role_waiting Wait.Asked true (Some false) Backward = refl
role_waiting Wait.Asked true None Backward = refl
role_waiting Wait.Busy true (Some true) Backward = refl
role_waiting Wait.Busy true (Some false) Backward = refl
role_waiting Wait.Busy true None Backward = refl
role_waiting Wait.Off true (Some true) Backward = refl
role_waiting Wait.Off true (Some false) Backward = refl
role_waiting Wait.Off true None Backward = refl

role_next : (r : Ringer) (w : Waiter) (need : Bool) (look : Option Bool) (s : Side) → role_of (next_of r w need look s) ≡ waiting_role s
role_next Rung.Put w need look Forward = refl
role_next Rung.Put w need look Backward = refl
role_next Rung.Hot w need look Forward = refl
role_next Rung.Hot w need look Backward = refl
role_next Rung.Ringing w need look Forward = refl
role_next Rung.Ringing w need look Backward = refl
role_next Rung.Free w need look s = role_waiting w need look s

pub role_posted : (p q : Post) (need : Bool) (e : Event) → Posted p need e q → role_of e.op ≡ waiting_role p.side
role_posted p q need e h = ap role_of h.op ∙ role_next p.state.ringer p.state.waiter need p.state.look p.side

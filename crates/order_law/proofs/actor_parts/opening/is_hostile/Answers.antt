use Rattle.std.proofs.Common.{length, refl, sym, ◌∙◌}
use Rattle.std.proofs.lemmas.Option.{slice_get_read}
use Rattle.order_law.proofs.ActorParts.Hosting.{hosted, unhosted}
use Rattle.order_law.proofs.actor_parts.opening.is_hostile.Goals as goal

pub returns-in-Some : goal.returns-in-Some
returns-in-Some c = let at = c.in-Some.ensures.lookup in c.is_hostile.ensures ∙ sym (hosted c.args.parts.now c.args.number.0 c.in-Some.field-0.now (slice_get_read c.args.parts.now (length c.args.parts.now) c.args.number.0 c.in-Some.field-0.now refl at.3.0 at.1))

pub returns-in-None : goal.returns-in-None
returns-in-None c = sym (unhosted c.args.parts.now c.args.number.0 c.in-None.ensures.lookup.3)

use Rattle.std.proofs.Common.{◌∙◌, ap, sym, nat_lt, slice_index_or}
use Rattle.std.proofs.lemmas.Bool.{ltb-false}
use Rattle.std.proofs.lemmas.List.{get_or_past}
use Rattle.wire_core.specs.Queues.{is_pending}
use Rattle.plain_wires.proofs.Counts.{called}
use Rattle.plain_wires.proofs.world.World.is_pending.Goals as goal

pub returns-in-Some : goal.returns-in-Some
returns-in-Some c = ap (nat_lt 0) (c.in-Some.ensures.lookup.3.1 0 ∙ (ap (λ xs. slice_index_or xs c.args.actor.0 0) c.deref.ensures.value ∙ c.self.invariant.right c.args.actor.0)) ∙ (called c.args.actor.0 c.self.inside.queues.items ∙ ap (is_pending c.args.actor.0) c.self.view_is)

pub returns-in-None : goal.returns-in-None
returns-in-None c = ap (nat_lt 0) (sym (get_or_past c.deref.result.now c.args.actor.0 0 (ltb-false c.args.actor.0 _ (sym c.in-None.ensures.lookup.0))) ∙ (ap (λ xs. slice_index_or xs c.args.actor.0 0) c.deref.ensures.value ∙ c.self.invariant.right c.args.actor.0)) ∙ (called c.args.actor.0 c.self.inside.queues.items ∙ ap (is_pending c.args.actor.0) c.self.view_is)

use Rattle.std.proofs.Common.{refl, ap, ◌∙◌}
use Rattle.wire_core.specs.declared.names.Op.TheVariants as Do
use Rattle.wire_core.specs.Deeds.{move_deed}
use Rattle.wire_core.specs.Ends.{Producer}
use Rattle.wire_core.proofs.Moving.{moves, happens_here, line_here}
use Rattle.plain_wires.proofs.world.WorldWires.put.Goals as goal

pub returns-clause-did : goal.returns-clause-did
returns-clause-did c = happens_here _ _ (move_deed c.args.q Do.Put (c.args.item, c.args.body)) _ _ c.self.view_is c.requires.may c.index_mut-queue.ensures.value (refl, c.put.ensures.room) ((c.args.item, c.args.body), refl, c.requires.kind ∙ ap (λ q. q.kind) (line_here _ _ Producer c.args.q.0 _ c.self.view_is c.requires.may.owned c.index_mut-queue.ensures.value)) refl c.put.ensures.after

pub returns-clause-ends : goal.returns-clause-ends
returns-clause-ends c = moves _ (move_deed c.args.q Do.Put (c.args.item, c.args.body)) _ (returns-clause-did c)

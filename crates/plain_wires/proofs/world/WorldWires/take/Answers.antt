use Rattle.std.proofs.Common.{refl, ap, ◌∙◌, ◌∷◌}
use Rattle.wire_core.specs.declared.names.Op.TheVariants as Do
use Rattle.wire_core.specs.Deeds.{move_deed}
use Rattle.wire_core.proofs.Moving.{moves, happens_here}
use Rattle.plain_wires.proofs.world.WorldWires.take.Goals as goal

pub returns-clause-did : goal.returns-clause-did
returns-clause-did c = happens_here _ _ (move_deed c.args.q Do.Take c.take.result) _ _ c.self.view_is c.requires c.index_mut-queue.ensures.value (refl, c.take.ensures.filled) (c.take.result, refl, c.take.ensures.first ∙ ap (λ es. c.take.result ∷ es) (ap (λ q. q.entries) c.take.ensures.after)) refl c.take.ensures.after

pub returns-clause-ends : goal.returns-clause-ends
returns-clause-ends c = moves _ (move_deed c.args.q Do.Take c.take.result) _ (returns-clause-did c)

use Rattle.std.proofs.Common.{refl}
use Rattle.wire_core.specs.declared.names.Op.TheVariants as Do
use Rattle.wire_core.specs.Deeds.{plain_deed}
use Rattle.wire_core.proofs.Moving.{moves, happens_here}
use Rattle.plain_wires.proofs.world.WorldWires.waive.Goals as goal

pub returns-clause-did : goal.returns-clause-did
returns-clause-did c = happens_here _ _ (plain_deed c.args.q (Do.Waive c.args.side)) _ _ c.self.view_is c.requires c.index_mut-queue.ensures.value refl refl refl c.waive.ensures

pub returns-clause-ends : goal.returns-clause-ends
returns-clause-ends c = moves _ (plain_deed c.args.q (Do.Waive c.args.side)) _ (returns-clause-did c)

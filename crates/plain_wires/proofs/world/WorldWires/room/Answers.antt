use Rattle.std.proofs.Common.{refl, ap}
use Rattle.wire_core.specs.declared.names.Op.TheVariants as Do
use Rattle.wire_core.specs.Deeds.{answer_of, look_deed}
use Rattle.wire_core.proofs.Moving.{moves, happens_here}
use Rattle.plain_wires.proofs.world.WorldWires.room.Goals as goal

pub returns-clause-did : goal.returns-clause-did
returns-clause-did c = happens_here _ _ (look_deed c.args.q Do.Room c.room.result) _ _ c.self.view_is c.requires c.index_mut-queue.ensures.value (ap answer_of c.room.ensures.now) refl refl c.room.ensures.after

pub returns-clause-ends : goal.returns-clause-ends
returns-clause-ends c = moves _ (look_deed c.args.q Do.Room c.room.result) _ (returns-clause-did c)

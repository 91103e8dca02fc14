use Rattle.std.proofs.Common.{refl}
use Rattle.wire_core.specs.declared.names.Op.TheVariants as Do
use Rattle.wire_core.specs.Deeds.{plain_deed}
use Rattle.wire_core.proofs.Moving.{moves}
use Rattle.plain_wires.proofs.world.WorldWildWires.store.Goals as goal

pub returns-in-Some-clause-ends : goal.returns-in-Some-clause-ends
returns-in-Some-clause-ends c = moves _ (plain_deed c.args.q (Do.Store c.args.word c.args.value)) _ (record { there = c.requires; may = record { condition = tt; tells = refl; carries = refl; item = refl }; after_is = c.store_pending.ensures })

pub returns-in-None-clause-ends : goal.returns-in-None-clause-ends
returns-in-None-clause-ends c = moves _ (plain_deed c.args.q (Do.Store c.args.word c.args.value)) _ (record { there = c.requires; may = record { condition = tt; tells = refl; carries = refl; item = refl }; after_is = c.store_plain.ensures })

use Rattle.wire_core.specs.declared.names.Op.TheVariants as Do
use Rattle.wire_core.specs.Deeds.{plain_deed}
use Rattle.seat_wires.proofs.Seating.{seat_moves}
use Rattle.seat_wires.proofs.seats.SeatsWildWires.store.Goals as goal

pub returns-then-consumes-clause-ends : goal.returns-then-consumes-clause-ends
returns-then-consumes-clause-ends c = seat_moves _ (plain_deed c.args.q (Do.Store c.args.word c.args.value)) _ c.store_by_consumer.ensures

pub returns-else-consumes-clause-ends : goal.returns-else-consumes-clause-ends
returns-else-consumes-clause-ends c = seat_moves _ (plain_deed c.args.q (Do.Store c.args.word c.args.value)) _ c.store_by_producer.ensures

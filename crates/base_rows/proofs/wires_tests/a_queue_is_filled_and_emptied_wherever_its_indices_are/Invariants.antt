use Rattle.std.proofs.Common.{◌≡◌, length}
use Rattle.cargo_core.specs.declared.item.QueueKind.TheVariants as Kind
use Rattle.wire_core.specs.Ends.{Producer}
use Rattle.wire_core.specs.Queues.{end_at}
use Rattle.base_rows.proofs.wires_tests.a_queue_is_filled_and_emptied_wherever_its_indices_are.Given as goal

abbrev pub invariant-loop : goal.invariant-loop
invariant-loop g l = (length l.small ≡ 1) × ((end_at l.small Producer 0).kind ≡ Kind.Byte)

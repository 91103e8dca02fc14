use Rattle.std.proofs.Common.{◌≡◌, length}
use Rattle.wire_core.specs.Ends.{Producer}
use Rattle.wire_core.specs.Queues.{end_at}
use Rattle.base_rows.proofs.wires_tests.first_wrong.Given as goal

abbrev pub invariant-loop-call : goal.invariant-loop-call
invariant-loop-call l = (length l.world ≡ length l.initial.world) × ((end_at l.world Producer 0).kind ≡ (end_at l.initial.world Producer 0).kind)

use Rattle.std.proofs.Common.{◌+◌}
use Rattle.system_core.specs.Crews.{AreTakers}
use Rattle.system_core.proofs.crews.blk_clients.Given as goal

abbrev pub invariant-loop-c : goal.invariant-loop-c
invariant-loop-c l = AreTakers l.rows (l.first + 5) 2 l.c l.numbers.items

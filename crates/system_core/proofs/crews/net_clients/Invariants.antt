use Rattle.system_core.specs.Crews.{AreTakers}
use Rattle.system_core.proofs.crews.net_clients.Given as goal

abbrev pub invariant-loop-c : goal.invariant-loop-c
invariant-loop-c l = AreTakers l.rows (10) 6 l.c l.numbers.items

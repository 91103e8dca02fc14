use Rattle.std.proofs.Common.{◌≤◌}
use Rattle.ring_bench.proofs.array.push_all.Given as goal

abbrev pub invariant-loop-try : goal.invariant-loop-try
invariant-loop-try g l = l.sent ≤ l.count

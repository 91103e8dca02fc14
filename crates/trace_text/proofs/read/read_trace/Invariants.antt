use Rattle.std.proofs.Common.{length}
use Rattle.trace_text.proofs.SoFar.{IsSoFar}
use Rattle.trace_text.proofs.read.read_trace.Given as goal

abbrev pub invariant-loop-rest : goal.invariant-loop-rest
invariant-loop-rest l = IsSoFar l.plan l.bytes l.rest l.number l.reader

abbrev pub decreases-loop-rest : goal.decreases-loop-rest
decreases-loop-rest l = length l.rest

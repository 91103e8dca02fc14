use Rattle.std.proofs.Common.{length}
use Rattle.line_text.proofs.PortsText.SoFar.{IsSoFar}
use Rattle.line_text.proofs.ports_text.read.read_ports.Given as goal

abbrev pub invariant-loop-rest : goal.invariant-loop-rest
invariant-loop-rest l = IsSoFar l.bytes l.rest l.number l.reader

abbrev pub decreases-loop-rest : goal.decreases-loop-rest
decreases-loop-rest l = length l.rest

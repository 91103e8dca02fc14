use Rattle.trace_text.proofs.Shapes.{shapes-read}
use Rattle.trace_text.proofs.laws.shapes_law.Goals as goal

pub returns : goal.returns
returns c plan trace read = shapes-read plan trace read

use Rattle.std.proofs.Common.{refl}
use Rattle.trace_text.proofs.reader.Reader.read_blk.Goals as goal

pub returns-in-None : goal.returns-in-None
returns-in-None c = rw c.in-None.ensures.parts refl

pub returns-in-Some : goal.returns-in-Some
returns-in-Some c = rw c.in-Some.ensures.parts c.read_blocks.ensures

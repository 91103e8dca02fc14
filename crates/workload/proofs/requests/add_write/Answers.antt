use Rattle.std.proofs.Common.{refl}
use Rattle.workload.specs.Lines.{write_line}
use Rattle.workload.proofs.requests.add_write.Goals as goal

pub returns : goal.returns
unfolding write_line
returns c = rw (c.in_ok-write.ensures.bytes, c.as_str.ensures.value, c.in_ok-digits.ensures) refl

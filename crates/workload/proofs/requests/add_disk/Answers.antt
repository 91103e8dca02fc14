use Rattle.workload.specs.Lines.{disk_lines}
use Rattle.workload.proofs.Drawing.{then_four}
use Rattle.workload.proofs.requests.add_disk.Goals as goal

pub returns : goal.returns
unfolding disk_lines
returns c = then_four _ _ _ _ _ _ _ _ _ c.in_ok-push_str.ensures.bytes c.in_ok-push_str-2.ensures.bytes c.in_ok-push_str-3.ensures.bytes c.in_ok-push_str-4.ensures.bytes

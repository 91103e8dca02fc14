use Rattle.workload.specs.Lines.{blk_lines}
use Rattle.workload.proofs.Drawing.{then_three}
use Rattle.workload.proofs.requests.add_three.Goals as goal

pub returns : goal.returns
unfolding blk_lines
returns c = then_three _ _ _ _ _ _ _ c.in_ok-add_write.ensures c.in_ok-add_read.ensures c.in_ok-push_str.ensures.bytes

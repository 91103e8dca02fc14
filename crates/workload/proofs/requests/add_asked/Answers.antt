use Rattle.workload.specs.Lines.{blk_lines}
use Rattle.workload.proofs.Drawing.{written, all_written}
use Rattle.workload.proofs.requests.add_asked.Goals as goal

pub loop-i-preserved : goal.loop-i-preserved
loop-i-preserved c = written blk_lines 32 c.loop-i.i _ _ _ _ _ _ c.loop-i-test.true c.draw-d.ensures.moved c.draw-d.ensures.given c.in_ok-add_three.ensures c.loop-i.invariant

pub returns : goal.returns
returns c = all_written blk_lines 32 c.loop-i.i _ _ _ c.loop-i-test.false c.loop-i.invariant

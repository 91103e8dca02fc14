use Rattle.workload.specs.Lines.{send_line}
use Rattle.workload.proofs.Drawing.{written, all_written, moved_on, all_moved}
use Rattle.workload.proofs.frames.add_sent.Goals as goal

pub loop-i-preserved : goal.loop-i-preserved
loop-i-preserved c = (
  written send_line 32 c.loop-i.i _ _ _ _ _ _ c.loop-i-test.true c.draw-d.ensures.moved c.draw-d.ensures.given c.in_ok-add_send.ensures c.loop-i.invariant.0,
  moved_on 32 c.loop-i.i _ _ _ c.loop-i-test.true c.draw-d.ensures.moved c.loop-i.invariant.1,
)

pub returns-clause-text : goal.returns-clause-text
returns-clause-text c = all_written send_line 32 c.loop-i.i _ _ _ c.loop-i-test.false c.loop-i.invariant.0

pub returns-clause-draws : goal.returns-clause-draws
returns-clause-draws c = all_moved 32 c.loop-i.i _ _ c.loop-i-test.false c.loop-i.invariant.1

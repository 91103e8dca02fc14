use Rattle.workload.proofs.Drawing.{pushed, all_pushed, moved_on, all_moved}
use Rattle.workload.proofs.streams.add_letters.Goals as goal

pub loop-at-preserved : goal.loop-at-preserved
loop-at-preserved c = (
  pushed c.args.many c.loop-at._at _ _ _ _ _ _ c.loop-at-test.true c.draw-d.ensures.moved c.draw-d.ensures.given c.in_ok-push.ensures.ok c.loop-at.invariant.0,
  moved_on c.args.many c.loop-at._at _ _ _ c.loop-at-test.true c.draw-d.ensures.moved c.loop-at.invariant.1,
)

pub returns-clause-letters : goal.returns-clause-letters
returns-clause-letters c = all_pushed c.args.many c.loop-at._at _ _ _ c.loop-at-test.false c.loop-at.invariant.0

pub returns-clause-draws : goal.returns-clause-draws
returns-clause-draws c = all_moved c.args.many c.loop-at._at _ _ c.loop-at-test.false c.loop-at.invariant.1

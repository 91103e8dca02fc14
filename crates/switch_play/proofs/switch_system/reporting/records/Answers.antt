use Rattle.std.proofs.Common.{arith}
use Rattle.switch_play.proofs.SwitchSystem.Reports.{record_more}
use Rattle.switch_play.proofs.switch_system.reporting.records.Goals as goal

pub loop-place-preserved : goal.loop-place-preserved
loop-place-preserved c = (record_more c.args.actors.now c.loop-place.place c.loop-place.records _ _ c.loop-place.invariant.0 c.in_ok-recorded.ensures c.in_ok-push.ensures.ok, omega arith)

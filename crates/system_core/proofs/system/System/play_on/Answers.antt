use Rattle.system_core.proofs.Playing.{play_step}
use Rattle.system_core.proofs.system.System.play_on.Goals as goal

pub loop-step-preserved : goal.loop-step-preserved
loop-step-preserved c = play_step _ _ _ _ c.loop-step.x _ c.next_seed-x.result c.place_of.result c.runnable_count-count.result c.runnable_count-count.ensures.told c.loop-step.invariant c.next_seed-x.ensures c.runnable_count-count.ensures.count c.place_of.ensures.place c.in_ok-step_at.ensures.ok

use Rattle.small_system.proofs.Playing.{start_playing, play_step, played, spent}
use Rattle.small_system.proofs.small.Small.play_on.Goals as goal

pub loop-step-init : goal.loop-step-init
loop-step-init g c = start_playing g.A.SmallActor.means _ c.args.seed

pub loop-step-preserved : goal.loop-step-preserved
loop-step-preserved g c = play_step g.A.SmallActor.means _ _ _ _ c.loop-step.x _ c.next_seed-x.result c.place_of.result c.running_count-count.result c.loop-step.invariant c.next_seed-x.ensures c.running_count-count.ensures c.place_of.ensures.place c.in_ok-step_at.ensures.ok

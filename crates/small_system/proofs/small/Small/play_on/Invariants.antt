use Rattle.small_system.proofs.Playing.{Playing}
use Rattle.small_system.proofs.small.Small.play_on.Given as goal

abbrev pub invariant-loop-step : goal.invariant-loop-step
invariant-loop-step g l = Playing g.A.SmallActor.means l.fn.self l.self l.fn.seed l.x l._step

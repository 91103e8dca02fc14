use Rattle.system_core.proofs.Playing.{Playing}
use Rattle.system_core.proofs.system.System.play_on.Given as goal

abbrev pub invariant-loop-step : goal.invariant-loop-step
invariant-loop-step l = Playing l.fn.self l.self l.fn.seed l.x l._step

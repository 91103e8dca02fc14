use Rattle.play_core.proofs.Flags.{reach_owns, runnable_apart, runnable_rung}
use Rattle.play_core.proofs.step_law.Goals as goal

pub returns-clause-apart : goal.returns-clause-apart
returns-clause-apart c = runnable_apart

pub returns-clause-reach : goal.returns-clause-reach
returns-clause-reach c = reach_owns

pub returns-clause-rung : goal.returns-clause-rung
returns-clause-rung c = runnable_rung

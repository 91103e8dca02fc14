use Rattle.cast_law.proofs.RunsLemmas.Holding.{have_held}
use Rattle.cast_law.proofs.runs.run_law.Goals as goal

pub returns : goal.returns
returns c = have_held

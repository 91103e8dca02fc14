use Rattle.actor_set.proofs.LawsLemmas.Told.{none_hostile, runs_calm}
use Rattle.actor_set.proofs.scenes.calm_law.Goals as goal

pub returns-clause-none : goal.returns-clause-none
returns-clause-none c = λ cast rows p calm. none_hostile cast calm rows p

pub returns-clause-runs : goal.returns-clause-runs
returns-clause-runs c = runs_calm

use Rattle.layout_laws.proofs.RegionLaws.BudgetsLemmas.Actors.{actors_are}
use Rattle.layout_laws.proofs.RegionLaws.BudgetsLemmas.Most.{most_is}
use Rattle.layout_laws.proofs.region_laws.budgets.budget_law.Goals as goal

pub returns-clause-actors : goal.returns-clause-actors
returns-clause-actors c = λ plan trace valid. actors_are plan valid trace

pub returns-clause-ends : goal.returns-clause-ends
returns-clause-ends c = λ plan trace valid. most_is plan valid trace

use Rattle.cast_bound.proofs.PlayBound.Bounding.{within_budget}
use Rattle.cast_bound.proofs.PlayBound.Classes.{classes_within}
use Rattle.cast_bound.proofs.play_bound.bound_law.Goals as goal

pub returns-clause-bounded : goal.returns-clause-bounded
returns-clause-bounded c = within_budget

pub returns-clause-classes : goal.returns-clause-classes
returns-clause-classes c = classes_within

use Rattle.turn_kit.proofs.Eager.{eager_start, eager_next, eager_restless, eager_forgets}
use Rattle.turn_kit.proofs.drops.eager_law.Goals as goal

pub returns-clause-begins : goal.returns-clause-begins
returns-clause-begins c = eager_start

pub returns-clause-keeps : goal.returns-clause-keeps
returns-clause-keeps c = eager_next

pub returns-clause-restless : goal.returns-clause-restless
returns-clause-restless c = eager_restless

pub returns-clause-forgets : goal.returns-clause-forgets
returns-clause-forgets c = eager_forgets

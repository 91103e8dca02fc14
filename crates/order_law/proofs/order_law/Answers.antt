use Rattle.order_law.proofs.Ordering.{ordered, grows}
use Rattle.order_law.proofs.order_law.Goals as goal

pub returns-clause-ordered : goal.returns-clause-ordered
returns-clause-ordered c = λ rows olds news run. ordered rows olds news run

pub returns-clause-grows : goal.returns-clause-grows
returns-clause-grows c = λ actors after passed end turns o. grows actors after passed end turns o

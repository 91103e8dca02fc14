use Rattle.wire_core.proofs.Answering.{finds, tells, stays}
use Rattle.wire_core.proofs.laws.wild_law.Goals as goal

pub returns-clause-finds : goal.returns-clause-finds
returns-clause-finds c = finds

pub returns-clause-tells : goal.returns-clause-tells
returns-clause-tells c = tells

pub returns-clause-stays : goal.returns-clause-stays
returns-clause-stays c = stays

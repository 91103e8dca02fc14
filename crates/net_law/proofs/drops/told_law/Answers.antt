use Rattle.net_law.proofs.DropsLemmas.Telling.{told_device, told_copier, accepted_is, left_is, used_up}
use Rattle.net_law.proofs.drops.told_law.Goals as goal

pub returns-clause-device : goal.returns-clause-device
returns-clause-device c = told_device

pub returns-clause-copier : goal.returns-clause-copier
returns-clause-copier c = told_copier

pub returns-clause-accepted : goal.returns-clause-accepted
returns-clause-accepted c = accepted_is

pub returns-clause-left : goal.returns-clause-left
returns-clause-left c = λ k calls frames. left_is k calls frames

pub returns-clause-settled : goal.returns-clause-settled
returns-clause-settled c = used_up

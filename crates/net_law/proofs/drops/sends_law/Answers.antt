use Rattle.net_law.proofs.DropsLemmas.Sending.{sends_left, sends_all}
use Rattle.net_law.proofs.drops.sends_law.Goals as goal

pub returns-clause-begins : goal.returns-clause-begins
returns-clause-begins c = sends_left

pub returns-clause-holds : goal.returns-clause-holds
returns-clause-holds c = sends_all

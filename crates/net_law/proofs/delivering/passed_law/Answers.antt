use Rattle.net_law.proofs.DeliveringLemmas.Passing.{device_gives, copier_gives, echo_puts}
use Rattle.net_law.proofs.delivering.passed_law.Goals as goal

pub returns-clause-device : goal.returns-clause-device
returns-clause-device c = device_gives

pub returns-clause-copier : goal.returns-clause-copier
returns-clause-copier c = copier_gives

pub returns-clause-echo : goal.returns-clause-echo
returns-clause-echo c = echo_puts

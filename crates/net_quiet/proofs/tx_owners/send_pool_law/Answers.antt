use Rattle.net_quiet.proofs.TxOwners.Carrying.{pools_apart, sender_on}
use Rattle.net_quiet.proofs.TxOwners.Holding.{sender_holds}
use Rattle.net_quiet.proofs.tx_owners.send_pool_law.Goals as goal

pub returns-clause-apart : goal.returns-clause-apart
returns-clause-apart c = λ v passed row. pools_apart v passed row

pub returns-clause-hands_on : goal.returns-clause-hands_on
returns-clause-hands_on c = λ naming v passed m names net row. sender_on naming passed m v names net row

pub returns-clause-holds : goal.returns-clause-holds
returns-clause-holds c = sender_holds

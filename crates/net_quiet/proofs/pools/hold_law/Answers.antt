use Rattle.net_quiet.proofs.PoolsLemmas.Clients.{client_holds}
use Rattle.net_quiet.proofs.PoolsLemmas.Holding.{device_holds, driver_holds, copier_holds}
use Rattle.net_quiet.proofs.PoolsLemmas.Lending.{receiver_holds}
use Rattle.net_quiet.proofs.pools.hold_law.Goals as goal

pub returns-clause-device : goal.returns-clause-device
returns-clause-device c = λ naming sizes scene d passed m. device_holds naming sizes scene passed m d

pub returns-clause-driver : goal.returns-clause-driver
returns-clause-driver c = λ naming sizes scene ps passed m. driver_holds naming sizes scene passed m ps

pub returns-clause-copier : goal.returns-clause-copier
returns-clause-copier c = λ naming sizes scene x passed m. copier_holds naming sizes scene passed m x

pub returns-clause-receiver : goal.returns-clause-receiver
returns-clause-receiver c = receiver_holds

pub returns-clause-client : goal.returns-clause-client
returns-clause-client c = λ naming sizes scene x passed m names balance. client_holds naming scene passed m x names sizes balance

use Rattle.net_quiet.proofs.PoolsLemmas.Handing.{device_on, driver_on, copier_on}
use Rattle.net_quiet.proofs.PoolsLemmas.Clients.{client_on}
use Rattle.net_quiet.proofs.PoolsLemmas.Receiving.{receiver_on}
use Rattle.net_quiet.proofs.pools.hand_on_law.Goals as goal

pub returns-clause-device : goal.returns-clause-device
returns-clause-device c = λ naming scene d passed m. device_on naming scene passed m d

pub returns-clause-driver : goal.returns-clause-driver
returns-clause-driver c = λ naming scene ps passed m. driver_on naming scene passed m ps

pub returns-clause-copier : goal.returns-clause-copier
returns-clause-copier c = λ naming scene x passed m. copier_on naming scene passed m x

pub returns-clause-receiver : goal.returns-clause-receiver
returns-clause-receiver c = λ naming scene v passed m names size net row. receiver_on naming scene passed m v names size net row

pub returns-clause-client : goal.returns-clause-client
returns-clause-client c = λ naming scene x passed m names has row. client_on naming scene passed m x names has row

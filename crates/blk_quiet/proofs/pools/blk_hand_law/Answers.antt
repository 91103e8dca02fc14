use Rattle.blk_quiet.proofs.PoolsLemmas.Carrying.{disk_on, driver_on}
use Rattle.blk_quiet.proofs.PoolsLemmas.Asking.{client_on}
use Rattle.blk_quiet.proofs.PoolsLemmas.Serving.{virt_on}
use Rattle.blk_quiet.proofs.pools.blk_hand_law.Goals as goal

pub returns-clause-disk : goal.returns-clause-disk
returns-clause-disk c = λ naming scene start d passed m items order names row. disk_on naming passed m items order scene start d names row

pub returns-clause-driver : goal.returns-clause-driver
returns-clause-driver c = λ naming scene p q passed m items order names row. driver_on naming passed m items order scene p q names row

pub returns-clause-virtualiser : goal.returns-clause-virtualiser
returns-clause-virtualiser c = λ naming scene v passed m items order names first turn row. virt_on naming scene passed m items order v names first turn row

pub returns-clause-client : goal.returns-clause-client
returns-clause-client c = λ naming scene x passed m names row. client_on naming scene passed m x names row

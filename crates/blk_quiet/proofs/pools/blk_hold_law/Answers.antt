use Rattle.blk_quiet.proofs.PoolsLemmas.Holding.{disk_holds, driver_holds, virt_holds, client_holds}
use Rattle.blk_quiet.proofs.pools.blk_hold_law.Goals as goal

pub returns-clause-disk : goal.returns-clause-disk
returns-clause-disk c = λ naming sizes scene start d passed m. disk_holds naming sizes scene passed m start d

pub returns-clause-driver : goal.returns-clause-driver
returns-clause-driver c = λ naming sizes scene p q passed m. driver_holds naming sizes scene passed m p q

pub returns-clause-virtualiser : goal.returns-clause-virtualiser
returns-clause-virtualiser c = λ naming sizes scene v passed m. virt_holds naming sizes scene passed m v

pub returns-clause-client : goal.returns-clause-client
returns-clause-client c = λ naming sizes scene x passed m. client_holds naming sizes scene passed m x

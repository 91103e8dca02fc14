use Rattle.blk_quiet.proofs.PoolsLemmas.Naming.{disk_named, driver_named, virt_named, client_named}
use Rattle.blk_quiet.proofs.PoolsLemmas.Sizing.{blk_within, blk_past}
use Rattle.blk_quiet.proofs.pools.blk_naming_law.Goals as goal

pub returns-clause-disk : goal.returns-clause-disk
returns-clause-disk c = disk_named

pub returns-clause-driver : goal.returns-clause-driver
returns-clause-driver c = driver_named

pub returns-clause-virtualiser : goal.returns-clause-virtualiser
returns-clause-virtualiser c = virt_named

pub returns-clause-client : goal.returns-clause-client
returns-clause-client c = client_named

pub returns-clause-within : goal.returns-clause-within
returns-clause-within c = blk_within

pub returns-clause-past : goal.returns-clause-past
returns-clause-past c = blk_past

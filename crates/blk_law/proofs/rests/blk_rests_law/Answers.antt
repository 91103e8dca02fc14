use Rattle.blk_law.proofs.RestsLemmas.Resting.{disk_rest, driver_rest, client_rest, virt_rest}
use Rattle.blk_law.proofs.rests.blk_rests_law.Goals as goal

pub returns-clause-disk : goal.returns-clause-disk
returns-clause-disk c = disk_rest

pub returns-clause-driver : goal.returns-clause-driver
returns-clause-driver c = driver_rest

pub returns-clause-client : goal.returns-clause-client
returns-clause-client c = client_rest

pub returns-clause-virtualiser : goal.returns-clause-virtualiser
returns-clause-virtualiser c = virt_rest

use Rattle.blk_law.proofs.OwnersLemmas.Copying.{disk_keeps, driver_keeps}
use Rattle.blk_law.proofs.OwnersLemmas.Asking.{client_keeps}
use Rattle.blk_law.proofs.OwnersLemmas.Serving.{virt_keeps}
use Rattle.blk_law.proofs.owners.blk_own_law.Goals as goal

pub returns-clause-disk : goal.returns-clause-disk
returns-clause-disk c = disk_keeps

pub returns-clause-driver : goal.returns-clause-driver
returns-clause-driver c = driver_keeps

pub returns-clause-client : goal.returns-clause-client
returns-clause-client c = client_keeps

pub returns-clause-virtualiser : goal.returns-clause-virtualiser
returns-clause-virtualiser c = virt_keeps

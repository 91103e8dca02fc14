use Rattle.net_law.proofs.OwnersLemmas.Actors.{device_keeps}
use Rattle.net_law.proofs.OwnersLemmas.Drivers.{driver_keeps}
use Rattle.net_law.proofs.OwnersLemmas.Copiers.{copier_keeps}
use Rattle.net_law.proofs.OwnersLemmas.Clients.{client_keeps}
use Rattle.net_law.proofs.owners.net_owner_law.Goals as goal

pub returns-clause-device : goal.returns-clause-device
returns-clause-device c = device_keeps

pub returns-clause-driver : goal.returns-clause-driver
returns-clause-driver c = driver_keeps

pub returns-clause-copier : goal.returns-clause-copier
returns-clause-copier c = copier_keeps

pub returns-clause-client : goal.returns-clause-client
returns-clause-client c = client_keeps

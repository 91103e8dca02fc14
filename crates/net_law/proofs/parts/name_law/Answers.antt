use Rattle.net_law.proofs.PartsLemmas.Numbering.{device_named, driver_named, receiver_named, copier_named, client_named}
use Rattle.net_law.proofs.parts.name_law.Goals as goal

pub returns-clause-device : goal.returns-clause-device
returns-clause-device c = device_named

pub returns-clause-driver : goal.returns-clause-driver
returns-clause-driver c = driver_named

pub returns-clause-receiver : goal.returns-clause-receiver
returns-clause-receiver c = receiver_named

pub returns-clause-copier : goal.returns-clause-copier
returns-clause-copier c = copier_named

pub returns-clause-client : goal.returns-clause-client
returns-clause-client c = client_named

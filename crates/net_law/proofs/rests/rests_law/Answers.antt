use Rattle.net_law.proofs.RestsLemmas.Resting.{device_rest, driver_rest, receiver_rest, copier_rest, client_rest}
use Rattle.net_law.proofs.rests.rests_law.Goals as goal

pub returns-clause-device : goal.returns-clause-device
returns-clause-device c = device_rest

pub returns-clause-driver : goal.returns-clause-driver
returns-clause-driver c = driver_rest

pub returns-clause-receiver : goal.returns-clause-receiver
returns-clause-receiver c = receiver_rest

pub returns-clause-copier : goal.returns-clause-copier
returns-clause-copier c = copier_rest

pub returns-clause-client : goal.returns-clause-client
returns-clause-client c = client_rest

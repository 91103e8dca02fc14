use Rattle.net_law.proofs.DropsLemmas.Holding.{device_holds, device_held, device_wants, copier_holds, copier_held, copier_wants, copier_dues, client_holds, client_held, client_wants, client_dues}
use Rattle.net_law.proofs.drops.hold_law.Goals as goal

pub returns-clause-device : goal.returns-clause-device
returns-clause-device c = device_holds

pub returns-clause-device_back : goal.returns-clause-device_back
returns-clause-device_back c = device_held

pub returns-clause-device_wants : goal.returns-clause-device_wants
returns-clause-device_wants c = device_wants

pub returns-clause-copier : goal.returns-clause-copier
returns-clause-copier c = copier_holds

pub returns-clause-copier_back : goal.returns-clause-copier_back
returns-clause-copier_back c = copier_held

pub returns-clause-copier_wants : goal.returns-clause-copier_wants
returns-clause-copier_wants c = copier_wants

pub returns-clause-copier_dues : goal.returns-clause-copier_dues
returns-clause-copier_dues c = copier_dues

pub returns-clause-client : goal.returns-clause-client
returns-clause-client c = client_holds

pub returns-clause-client_back : goal.returns-clause-client_back
returns-clause-client_back c = client_held

pub returns-clause-client_wants : goal.returns-clause-client_wants
returns-clause-client_wants c = client_wants

pub returns-clause-client_dues : goal.returns-clause-client_dues
returns-clause-client_dues c = client_dues

use Rattle.buffer_kit.specs.Virtualising.{from_queues, to_queues}
use Rattle.wired_law.proofs.PageLaw.ActorsLemmas.Plain.{copier_conserves, client_conserves, driver_conserves, device_conserves}
use Rattle.wired_law.proofs.PageLaw.ActorsLemmas.Sending.{sender_conserves}
use Rattle.wired_law.proofs.PageLaw.ActorsLemmas.Receiving.{receiver_conserves}
use Rattle.wired_law.proofs.page_law.actors.network_law.Goals as goal

pub returns-clause-copier : goal.returns-clause-copier
returns-clause-copier c = copier_conserves

pub returns-clause-client : goal.returns-clause-client
returns-clause-client c = client_conserves

pub returns-clause-driver : goal.returns-clause-driver
returns-clause-driver c = driver_conserves

pub returns-clause-device : goal.returns-clause-device
returns-clause-device c = device_conserves

pub returns-clause-sender : goal.returns-clause-sender
returns-clause-sender c = λ v passed h. sender_conserves v.ends.input.queue.0 v.ends.output.queue.0 (from_queues v.ends) (to_queues v.ends) v.work passed h

pub returns-clause-receiver : goal.returns-clause-receiver
returns-clause-receiver c = λ v passed h. receiver_conserves v.ends.input.queue.0 v.ends.output.queue.0 (from_queues v.ends) (to_queues v.ends) v.work passed h

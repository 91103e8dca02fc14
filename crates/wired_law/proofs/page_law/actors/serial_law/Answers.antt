use Rattle.wired_law.proofs.PageLaw.ActorsLemmas.Serial.{terminal_conserves, receiver_conserves, sender_conserves}
use Rattle.wired_law.proofs.page_law.actors.serial_law.Goals as goal

pub returns-clause-terminal : goal.returns-clause-terminal
returns-clause-terminal c = terminal_conserves

pub returns-clause-receiver : goal.returns-clause-receiver
returns-clause-receiver c = receiver_conserves

pub returns-clause-sender : goal.returns-clause-sender
returns-clause-sender c = sender_conserves

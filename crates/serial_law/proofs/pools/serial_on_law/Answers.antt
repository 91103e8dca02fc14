use Rattle.serial_law.proofs.PoolsLemmas.Passing.{terminal_on, driver_on, receiver_on, sender_on}
use Rattle.serial_law.proofs.pools.serial_on_law.Goals as goal

pub returns-clause-terminal : goal.returns-clause-terminal
returns-clause-terminal c = λ naming t passed m. terminal_on naming passed m t

pub returns-clause-driver : goal.returns-clause-driver
returns-clause-driver c = λ naming ps passed m. driver_on naming passed m ps

pub returns-clause-receiver : goal.returns-clause-receiver
returns-clause-receiver c = λ naming v passed m. receiver_on naming passed m v

pub returns-clause-sender : goal.returns-clause-sender
returns-clause-sender c = λ naming v passed m. sender_on naming passed m v

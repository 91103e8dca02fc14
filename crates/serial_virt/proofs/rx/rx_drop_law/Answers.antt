use Rattle.serial_virt.proofs.Dropping.{stands_held, held_stands, holds, held, held_row, round_held, few_of}
use Rattle.serial_virt.proofs.Holding.{held_balance}
use Rattle.serial_virt.proofs.rx.rx_drop_law.Goals as goal

pub returns-clause-stands : goal.returns-clause-stands
returns-clause-stands c = λ v passed all h. stands_held v passed all h

pub returns-clause-stood : goal.returns-clause-stood
returns-clause-stood c = λ v passed all h. held_stands v passed all h

pub returns-clause-holds : goal.returns-clause-holds
returns-clause-holds c = λ v passed all row. holds v passed all row

pub returns-clause-held : goal.returns-clause-held
returns-clause-held c = λ v passed all row. held v passed all row

pub returns-clause-round : goal.returns-clause-round
returns-clause-round c = round_held

pub returns-clause-few : goal.returns-clause-few
returns-clause-few c = few_of

pub returns-clause-row : goal.returns-clause-row
returns-clause-row c = held_row

pub returns-clause-balance : goal.returns-clause-balance
returns-clause-balance c = held_balance

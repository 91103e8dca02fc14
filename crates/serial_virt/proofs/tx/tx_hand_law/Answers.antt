use Rattle.serial_virt.proofs.Holding.{tx_balance}
use Rattle.serial_virt.proofs.tx.tx_hand_law.Goals as goal

pub returns : goal.returns
returns c = tx_balance

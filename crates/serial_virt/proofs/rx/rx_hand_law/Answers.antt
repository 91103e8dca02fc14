use Rattle.serial_virt.proofs.Holding.{rx_balance}
use Rattle.serial_virt.proofs.rx.rx_hand_law.Goals as goal

pub returns : goal.returns
returns c = rx_balance

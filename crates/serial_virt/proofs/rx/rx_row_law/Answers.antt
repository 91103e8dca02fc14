use Rattle.serial_virt.proofs.Sharing.{rx_row}
use Rattle.serial_virt.proofs.rx.rx_row_law.Goals as goal

pub returns : goal.returns
returns c = rx_row

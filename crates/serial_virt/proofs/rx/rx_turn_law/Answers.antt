use Rattle.serial_virt.proofs.Turns.{drop_turn}
use Rattle.serial_virt.proofs.rx.rx_turn_law.Goals as goal

pub returns : goal.returns
returns c = drop_turn

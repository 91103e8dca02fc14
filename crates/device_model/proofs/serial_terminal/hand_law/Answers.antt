use Rattle.device_model.proofs.SerialTerminal.Holding.{balance_of}
use Rattle.device_model.proofs.serial_terminal.hand_law.Goals as goal

pub returns : goal.returns
returns c = balance_of

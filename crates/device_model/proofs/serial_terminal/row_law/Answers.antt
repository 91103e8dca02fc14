use Rattle.device_model.proofs.SerialTerminal.Speech.{row_of}
use Rattle.device_model.proofs.serial_terminal.row_law.Goals as goal

pub returns : goal.returns
returns c = row_of

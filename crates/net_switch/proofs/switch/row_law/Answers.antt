use Rattle.net_switch.proofs.Row.{row_of}
use Rattle.net_switch.proofs.switch.row_law.Goals as goal

pub returns : goal.returns
returns c = row_of

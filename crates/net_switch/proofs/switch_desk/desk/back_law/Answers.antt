use Rattle.net_switch.proofs.SwitchDesk.Moves.{back_moved}
use Rattle.net_switch.proofs.switch_desk.desk.back_law.Goals as goal

pub returns : goal.returns
returns c old new port s x h there copied frame w = back_moved old new port s x h there copied frame w

use Rattle.net_virt_rx.proofs.Rounds.{row_of}
use Rattle.net_virt_rx.proofs.row_law.Goals as goal

pub returns : goal.returns
returns c = row_of

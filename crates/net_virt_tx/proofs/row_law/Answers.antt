use Rattle.net_virt_tx.proofs.Rounds.{row_of}
use Rattle.net_virt_tx.proofs.row_law.Goals as goal

pub returns : goal.returns
returns c = row_of

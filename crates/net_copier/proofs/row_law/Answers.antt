use Rattle.net_copier.proofs.Holding.{row_of}
use Rattle.net_copier.proofs.row_law.Goals as goal

pub returns : goal.returns
returns c = row_of

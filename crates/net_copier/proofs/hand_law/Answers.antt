use Rattle.net_copier.proofs.Holding.{balance_of}
use Rattle.net_copier.proofs.hand_law.Goals as goal

pub returns : goal.returns
returns c = balance_of

use Rattle.client_programs.proofs.NetLemmas.Holding.{balance_of}
use Rattle.client_programs.proofs.net.hand_law.Goals as goal

pub returns : goal.returns
returns c = balance_of

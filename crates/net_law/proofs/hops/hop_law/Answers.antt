use Rattle.net_law.proofs.HopsLemmas.Moves.{net_moved}
use Rattle.net_law.proofs.hops.hop_law.Goals as goal

pub returns : goal.returns
returns c = net_moved

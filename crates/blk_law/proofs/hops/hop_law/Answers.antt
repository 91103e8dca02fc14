use Rattle.blk_law.proofs.HopsLemmas.Moves.{blk_moved}
use Rattle.blk_law.proofs.hops.hop_law.Goals as goal

pub returns : goal.returns
returns c = blk_moved

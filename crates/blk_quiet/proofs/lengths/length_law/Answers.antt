use Rattle.blk_quiet.proofs.CastLemmas.Lengths.{long_in_turn}
use Rattle.blk_quiet.proofs.lengths.length_law.Goals as goal

pub returns : goal.returns
returns c = long_in_turn

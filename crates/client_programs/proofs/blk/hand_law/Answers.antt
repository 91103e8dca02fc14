use Rattle.client_programs.proofs.BlkLemmas.Standing.{balance_of}
use Rattle.client_programs.proofs.blk.hand_law.Goals as goal

pub returns : goal.returns
returns c = balance_of

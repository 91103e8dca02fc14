use Rattle.client_programs.proofs.BlkLemmas.Standing.{row_of}
use Rattle.client_programs.proofs.blk.row_law.Goals as goal

pub returns : goal.returns
returns c = row_of

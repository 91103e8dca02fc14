use Rattle.client_programs.proofs.NetLemmas.Standing.{row_of}
use Rattle.client_programs.proofs.net.row_law.Goals as goal

pub returns : goal.returns
returns c = row_of

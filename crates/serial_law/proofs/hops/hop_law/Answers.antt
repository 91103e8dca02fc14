use Rattle.serial_law.proofs.HopsLemmas.Moves.{serial_moves}
use Rattle.serial_law.proofs.hops.hop_law.Goals as goal

pub returns : goal.returns
returns c = serial_moves

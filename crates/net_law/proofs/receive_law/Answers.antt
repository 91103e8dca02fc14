use Rattle.net_law.proofs.Arriving.{record_begins}
use Rattle.net_law.proofs.receive_law.Goals as goal

pub returns : goal.returns
returns c = record_begins

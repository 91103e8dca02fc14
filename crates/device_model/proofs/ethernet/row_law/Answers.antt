use Rattle.device_model.proofs.EthernetLemmas.Holding.{row_of}
use Rattle.device_model.proofs.ethernet.row_law.Goals as goal

pub returns : goal.returns
returns c = row_of

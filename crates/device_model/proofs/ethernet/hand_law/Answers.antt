use Rattle.device_model.proofs.EthernetLemmas.Holding.{balance_of}
use Rattle.device_model.proofs.ethernet.hand_law.Goals as goal

pub returns : goal.returns
returns c = balance_of

use Rattle.device_model.proofs.DiskLemmas.Holding.{balance_of}
use Rattle.device_model.proofs.disk.hand_law.Goals as goal

pub returns : goal.returns
returns c = balance_of

use Rattle.serial_law.proofs.Telling.{told_shares}
use Rattle.serial_law.proofs.drops.told_law.Goals as goal

pub returns : goal.returns
returns c = told_shares

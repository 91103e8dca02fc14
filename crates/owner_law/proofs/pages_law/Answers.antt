use Rattle.owner_law.proofs.Carrying.{pages_stand}
use Rattle.owner_law.proofs.pages_law.Goals as goal

pub returns : goal.returns
returns c = pages_stand

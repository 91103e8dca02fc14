use Rattle.owner_law.proofs.Adopted.{table_shown, pools_shown}
use Rattle.owner_law.proofs.shown_law.Goals as goal

pub returns-clause-shown : goal.returns-clause-shown
returns-clause-shown c = table_shown

pub returns-clause-pools : goal.returns-clause-pools
returns-clause-pools c = pools_shown

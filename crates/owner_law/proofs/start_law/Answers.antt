use Rattle.owner_law.proofs.Starts.{start_shown, start_counted, start_pools}
use Rattle.owner_law.proofs.start_law.Goals as goal

pub returns-clause-shown : goal.returns-clause-shown
returns-clause-shown c = start_shown

pub returns-clause-counted : goal.returns-clause-counted
returns-clause-counted c = start_counted

pub returns-clause-pools : goal.returns-clause-pools
returns-clause-pools c = start_pools

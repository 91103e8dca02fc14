use Rattle.owner_law.proofs.PoolsLemmas.Casting.{nothing_kept}
use Rattle.owner_law.proofs.PoolsLemmas.Plain.{plain_holds}
use Rattle.owner_law.proofs.pools.nothing_law.Goals as goal

pub returns-clause-keeps : goal.returns-clause-keeps
returns-clause-keeps c = λ naming hand ends m none. nothing_kept naming hand ends none m

pub returns-clause-holds : goal.returns-clause-holds
returns-clause-holds c = λ naming sizes ends passed m hand kept. plain_holds naming m passed sizes ends hand kept

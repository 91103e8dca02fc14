use Rattle.owner_law.proofs.PoolsLemmas.Spreading.{its_none, its_one, its_two}
use Rattle.owner_law.proofs.pools.share_law.Goals as goal

pub returns-clause-none : goal.returns-clause-none
returns-clause-none c = its_none

pub returns-clause-one : goal.returns-clause-one
returns-clause-one c = its_one

pub returns-clause-two : goal.returns-clause-two
returns-clause-two c = its_two

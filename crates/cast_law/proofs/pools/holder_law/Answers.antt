use Rattle.cast_law.proofs.PoolsLemmas.Acting.{actor_on, actor_holds}
use Rattle.cast_law.proofs.PoolsLemmas.Goodness.{none_bad}
use Rattle.cast_law.proofs.pools.holder_law.Goals as goal

pub returns-clause-hands_on : goal.returns-clause-hands_on
returns-clause-hands_on c = λ naming scene x passed m items order. actor_on naming scene passed m items order x

pub returns-clause-holds : goal.returns-clause-holds
returns-clause-holds c = λ naming sizes scene x passed m items. actor_holds naming scene passed m items sizes x

pub returns-clause-bad : goal.returns-clause-bad
returns-clause-bad c = none_bad

use Rattle.owner_law.proofs.PoolsLemmas.Lasting.{last_queues, last_hands, last_lent, last_whole}
use Rattle.owner_law.proofs.pools.line_law.Goals as goal

pub returns-clause-queues : goal.returns-clause-queues
returns-clause-queues c = last_queues

pub returns-clause-hands : goal.returns-clause-hands
returns-clause-hands c = last_hands

pub returns-clause-lent : goal.returns-clause-lent
returns-clause-lent c = last_lent

pub returns-clause-whole : goal.returns-clause-whole
returns-clause-whole c = last_whole

use Rattle.owner_law.proofs.Counting.{census_whole, census_queues, census_hands, queue_has, actor_has}
use Rattle.owner_law.proofs.census_law.Goals as goal

pub returns-clause-whole : goal.returns-clause-whole
returns-clause-whole c = census_whole

pub returns-clause-queues : goal.returns-clause-queues
returns-clause-queues c = census_queues

pub returns-clause-hands : goal.returns-clause-hands
returns-clause-hands c = census_hands

pub returns-clause-queue : goal.returns-clause-queue
returns-clause-queue c = λ naming lender keepers m t pool buffers n shown. queue_has naming lender keepers m t pool buffers shown n

pub returns-clause-actor : goal.returns-clause-actor
returns-clause-actor c = λ naming lender keepers m t pool buffers k p shown at. actor_has naming lender keepers m t pool buffers shown k p at

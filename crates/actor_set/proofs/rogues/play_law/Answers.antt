use Rattle.actor_set.proofs.RogueLemmas.Playing.{begins, own, beside, runs, few}
use Rattle.actor_set.proofs.rogues.play_law.Goals as goal

pub returns-clause-begins : goal.returns-clause-begins
returns-clause-begins c = begins

pub returns-clause-own : goal.returns-clause-own
returns-clause-own c = own

pub returns-clause-beside : goal.returns-clause-beside
returns-clause-beside c = beside

pub returns-clause-runs : goal.returns-clause-runs
returns-clause-runs c = runs

pub returns-clause-few : goal.returns-clause-few
returns-clause-few c = few

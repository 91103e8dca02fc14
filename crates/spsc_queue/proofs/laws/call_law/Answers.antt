use Rattle.spsc_queue.proofs.Rows.{end_did, sort_did, noes_did, steps_did}
use Rattle.spsc_queue.proofs.laws.call_law.Goals as goal

pub returns-clause-end : goal.returns-clause-end
returns-clause-end c = end_did

pub returns-clause-sort : goal.returns-clause-sort
returns-clause-sort c = sort_did

pub returns-clause-noes : goal.returns-clause-noes
returns-clause-noes c = noes_did

pub returns-clause-steps : goal.returns-clause-steps
returns-clause-steps c = steps_did

use Rattle.workload.proofs.WorkloadLaw.Example.{root, full_clients, full_short}
use Rattle.workload.proofs.WorkloadLaw.Kept.{is_document, rules_kept}
use Rattle.workload.proofs.WorkloadLaw.Accepted.{full_valid}
use Rattle.workload.proofs.workload_law.laws.example_law.Goals as goal

pub returns-clause-short : goal.returns-clause-short
returns-clause-short c = full_short

pub returns-clause-kept : goal.returns-clause-kept
returns-clause-kept c = rules_kept

pub returns-clause-plan : goal.returns-clause-plan
returns-clause-plan c = (root, is_document, full_valid, full_clients)

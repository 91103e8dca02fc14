use Rattle.workload.proofs.WorkloadLaw.Generated.{generated_good, generated_short}
use Rattle.workload.proofs.workload_law.laws.trace_law.Goals as goal

pub returns-clause-lines : goal.returns-clause-lines
returns-clause-lines c plan n has = generated_good plan n has

pub returns-clause-short : goal.returns-clause-short
returns-clause-short c n = generated_short n

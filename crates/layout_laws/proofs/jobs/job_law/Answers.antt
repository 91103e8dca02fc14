use Rattle.layout_laws.proofs.JobsLemmas.Having.{some_job, one_actor, same_job, job_below}
use Rattle.layout_laws.proofs.JobsLemmas.Owning.{owners_long, owners_there}
use Rattle.layout_laws.proofs.jobs.job_law.Goals as goal

pub returns-clause-each : goal.returns-clause-each
returns-clause-each c = some_job

pub returns-clause-one : goal.returns-clause-one
returns-clause-one c = one_actor

pub returns-clause-same : goal.returns-clause-same
returns-clause-same c = same_job

pub returns-clause-below : goal.returns-clause-below
returns-clause-below c = job_below

pub returns-clause-many : goal.returns-clause-many
returns-clause-many c = owners_long

pub returns-clause-owners : goal.returns-clause-owners
returns-clause-owners c = owners_there

use Rattle.cast_core.proofs.HostileLemmas.{calm_jobs, calm_cast}
use Rattle.cast_core.proofs.hostile.calm_law.Goals as goal

pub returns-clause-parts : goal.returns-clause-parts
returns-clause-parts c = calm_jobs

pub returns-clause-cast : goal.returns-clause-cast
returns-clause-cast c = calm_cast

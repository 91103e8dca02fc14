use Rattle.owner_law.proofs.PoolsLemmas.Handing.{carry_start, carry_step, carry_takes}
use Rattle.owner_law.proofs.pools.carry_law.Goals as goal

pub returns-clause-start : goal.returns-clause-start
returns-clause-start c = carry_start

pub returns-clause-step : goal.returns-clause-step
returns-clause-step c = carry_step

pub returns-clause-takes : goal.returns-clause-takes
returns-clause-takes c = carry_takes

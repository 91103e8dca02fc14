use Rattle.owner_law.proofs.PoolsLemmas.Sizing.{spread_dealt, spread_pools, spread_within}
use Rattle.owner_law.proofs.pools.spread_law.Goals as goal

pub returns-clause-dealt : goal.returns-clause-dealt
returns-clause-dealt c = spread_dealt

pub returns-clause-pools : goal.returns-clause-pools
returns-clause-pools c = spread_pools

pub returns-clause-within : goal.returns-clause-within
returns-clause-within c = spread_within

use Rattle.net_quiet.proofs.PoolsLemmas.Sizing.{layout_within}
use Rattle.net_quiet.proofs.pools.size_law.Goals as goal

pub returns : goal.returns
returns c = λ scene pool macs pools apart n. layout_within pool pools apart scene macs n

use Rattle.net_law.proofs.PartsLemmas.Following.{net_own, net_follows}
use Rattle.net_law.proofs.parts.table_law.Goals as goal

pub returns-clause-own : goal.returns-clause-own
returns-clause-own c = net_own

pub returns-clause-follow : goal.returns-clause-follow
returns-clause-follow c = net_follows

use Rattle.net_law.proofs.TxParts.Following.{send_own, send_follows}
use Rattle.net_law.proofs.tx_parts.table_law.Goals as goal

pub returns-clause-own : goal.returns-clause-own
returns-clause-own c = send_own

pub returns-clause-follow : goal.returns-clause-follow
returns-clause-follow c = send_follows

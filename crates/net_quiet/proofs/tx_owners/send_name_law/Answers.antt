use Rattle.net_quiet.proofs.TxOwners.Naming.{sender_named}
use Rattle.net_quiet.proofs.tx_owners.send_name_law.Goals as goal

pub returns : goal.returns
returns c = sender_named

use Rattle.net_quiet.proofs.TxOwners.Owning.{send_own}
use Rattle.net_quiet.proofs.tx_owners.send_own_law.Goals as goal

pub returns : goal.returns
returns c = send_own

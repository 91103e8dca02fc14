use Rattle.net_law.proofs.TxRests.Resting.{sender_rest}
use Rattle.net_law.proofs.tx_rests.sender_rests_law.Goals as goal

pub returns : goal.returns
returns c = sender_rest

use Rattle.net_law.proofs.TxParts.Items.{send_row}
use Rattle.net_law.proofs.tx_parts.row_law.Goals as goal

pub returns : goal.returns
returns c = send_row

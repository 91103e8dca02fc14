use Rattle.net_law.proofs.TxScene.Items.{both_row}
use Rattle.net_law.proofs.tx_scene.row_law.Goals as goal

pub returns : goal.returns
returns c = both_row

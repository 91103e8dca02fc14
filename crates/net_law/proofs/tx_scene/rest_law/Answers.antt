use Rattle.net_law.proofs.TxScene.Resting.{both_rest}
use Rattle.net_law.proofs.tx_scene.rest_law.Goals as goal

pub returns : goal.returns
returns c = both_rest

use Rattle.net_law.proofs.TxScene.Moments.{tells_came, tells_back, lies_within}
use Rattle.net_law.proofs.tx_scene.moment_law.Goals as goal

pub returns-clause-came : goal.returns-clause-came
returns-clause-came c = tells_came

pub returns-clause-back : goal.returns-clause-back
returns-clause-back c = tells_back

pub returns-clause-within : goal.returns-clause-within
returns-clause-within c = lies_within

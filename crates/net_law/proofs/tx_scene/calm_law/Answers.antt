use Rattle.net_law.proofs.TxScene.Calming.{calm_row, row_calm, calm_wants, calm_dues}
use Rattle.net_law.proofs.tx_scene.calm_law.Goals as goal

pub returns-clause-row : goal.returns-clause-row
returns-clause-row c = calm_row

pub returns-clause-back : goal.returns-clause-back
returns-clause-back c = row_calm

pub returns-clause-wants : goal.returns-clause-wants
returns-clause-wants c = calm_wants

pub returns-clause-dues : goal.returns-clause-dues
returns-clause-dues c = calm_dues

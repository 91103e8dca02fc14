use Rattle.play_core.proofs.Staying.{picked_stays, rows_stay}
use Rattle.net_law.specs.TxScene.Table.{LiesWithin, both_sheet}
use Rattle.net_law.proofs.TxScene.Following.{both_stays}
use Rattle.net_law.proofs.tx_scene.grow_law.Goals as goal

pub returns-clause-stays : goal.returns-clause-stays
returns-clause-stays c = both_stays

pub returns-clause-picked : goal.returns-clause-picked
returns-clause-picked c wild names grown grows history cast = picked_stays (both_sheet wild) (LiesWithin wild) (both_stays wild) names grown grows history cast

pub returns-clause-rows : goal.returns-clause-rows
returns-clause-rows c wild names grown grows history cast = rows_stay (both_sheet wild) (LiesWithin wild) (both_stays wild) names grown grows history cast

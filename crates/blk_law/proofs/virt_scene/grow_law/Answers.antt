use Rattle.play_core.proofs.Staying.{picked_stays, rows_stay}
use Rattle.blk_law.specs.VirtScene.Table.{LiesWithin, both_sheet}
use Rattle.blk_law.proofs.VirtScene.Growing.{both_stays}
use Rattle.blk_law.proofs.virt_scene.grow_law.Goals as goal

pub returns-clause-stays : goal.returns-clause-stays
returns-clause-stays c = both_stays

pub returns-clause-picked : goal.returns-clause-picked
returns-clause-picked c scene wild names grown grows history cast = picked_stays (both_sheet scene wild) (LiesWithin wild) (both_stays scene wild) names grown grows history cast

pub returns-clause-rows : goal.returns-clause-rows
returns-clause-rows c scene wild names grown grows history cast = rows_stay (both_sheet scene wild) (LiesWithin wild) (both_stays scene wild) names grown grows history cast

use Rattle.play_core.proofs.Staying.{picked_stays, rows_stay}
use Rattle.actor_set.specs.Laws.Scenes.{LiesWithin, told_sheet}
use Rattle.actor_set.proofs.LawsLemmas.Told as told
use Rattle.actor_set.proofs.scenes.scene_law.Goals as goal

pub returns-clause-own : goal.returns-clause-own
returns-clause-own c = told.told_own

pub returns-clause-stays : goal.returns-clause-stays
returns-clause-stays c = told.told_stays

pub returns-clause-picked : goal.returns-clause-picked
returns-clause-picked c scene wild names grown grows history cast = picked_stays (told_sheet scene wild) (LiesWithin wild) (told.told_stays scene wild) names grown grows history cast

pub returns-clause-rows : goal.returns-clause-rows
returns-clause-rows c scene wild names grown grows history cast = rows_stay (told_sheet scene wild) (LiesWithin wild) (told.told_stays scene wild) names grown grows history cast

pub returns-clause-within : goal.returns-clause-within
returns-clause-within c = told.lies_within

pub returns-clause-calm_row : goal.returns-clause-calm_row
returns-clause-calm_row c = told.calm_row

pub returns-clause-calm_back : goal.returns-clause-calm_back
returns-clause-calm_back c = told.row_calm

pub returns-clause-calm_wants : goal.returns-clause-calm_wants
returns-clause-calm_wants c = told.calm_wants

pub returns-clause-calm_dues : goal.returns-clause-calm_dues
returns-clause-calm_dues c = told.calm_dues

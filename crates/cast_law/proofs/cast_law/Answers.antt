use Rattle.cast_core.specs.Casts.{job_part}
use Rattle.cast_law.proofs.Calming.{all_calm}
use Rattle.cast_law.proofs.Seated.{part_there}
use Rattle.cast_law.proofs.Joined.{all_seated, whole_network, whole_block, scene_of_plan}
use Rattle.cast_law.proofs.Blocks.{no_block}
use Rattle.cast_law.proofs.Wired.{no_network}
use Rattle.cast_law.proofs.Pooled.{pooled, placed}
use Rattle.cast_law.proofs.cast_law.Goals as goal

pub returns-clause-seated : goal.returns-clause-seated
returns-clause-seated c = all_seated

pub returns-clause-calm : goal.returns-clause-calm
returns-clause-calm c = λ plan trace actors none cast. all_calm plan trace actors (c.calm_law.ensures.cast plan trace actors none cast)

pub returns-clause-parts : goal.returns-clause-parts
returns-clause-parts c = λ plan trace actors valid cast. part_there (job_part plan trace) plan actors valid cast

pub returns-clause-whole : goal.returns-clause-whole
returns-clause-whole c = whole_network

pub returns-clause-scene : goal.returns-clause-scene
returns-clause-scene c = scene_of_plan

pub returns-clause-pooled : goal.returns-clause-pooled
returns-clause-pooled c = pooled

pub returns-clause-placed : goal.returns-clause-placed
returns-clause-placed c = λ plan trace actors valid read cast. placed plan trace valid actors read cast

pub returns-clause-no_network : goal.returns-clause-no_network
returns-clause-no_network c = no_network

pub returns-clause-block : goal.returns-clause-block
returns-clause-block c = whole_block

pub returns-clause-no_block : goal.returns-clause-no_block
returns-clause-no_block c = no_block

use Rattle.blk_law.proofs.VirtScene.Growing.{both_own, both_follows}
use Rattle.blk_law.proofs.virt_scene.table_law.Goals as goal

pub returns-clause-own : goal.returns-clause-own
returns-clause-own c = both_own

pub returns-clause-follow : goal.returns-clause-follow
returns-clause-follow c = both_follows

use Rattle.blk_law.proofs.VirtScene.Resting.{both_rest}
use Rattle.blk_law.proofs.virt_scene.rest_law.Goals as goal

pub returns : goal.returns
returns c = both_rest

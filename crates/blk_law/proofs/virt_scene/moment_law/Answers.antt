use Rattle.blk_law.proofs.VirtScene.Moments.{tells_came, lies_within}
use Rattle.blk_law.proofs.virt_scene.moment_law.Goals as goal

pub returns-clause-came : goal.returns-clause-came
returns-clause-came c = tells_came

pub returns-clause-within : goal.returns-clause-within
returns-clause-within c = lies_within

use Rattle.blk_law.proofs.VirtScene.Items.{both_row}
use Rattle.blk_law.proofs.virt_scene.row_law.Goals as goal

pub returns : goal.returns
returns c = both_row

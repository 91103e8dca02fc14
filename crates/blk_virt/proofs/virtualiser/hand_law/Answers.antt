use Rattle.blk_virt.proofs.Rows.{balance_of}
use Rattle.blk_virt.proofs.virtualiser.hand_law.Goals as goal

pub returns : goal.returns
returns c = balance_of

use Rattle.blk_virt.proofs.Rows.{row_of}
use Rattle.blk_virt.proofs.virtualiser.row_law.Goals as goal

pub returns : goal.returns
returns c = row_of

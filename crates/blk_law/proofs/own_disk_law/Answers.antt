use Rattle.blk_law.proofs.Own.{own_disk}
use Rattle.blk_law.proofs.own_disk_law.Goals as goal

pub returns : goal.returns
returns c = λ own first count image has taken asked others f. own_disk own first count taken image has others asked f

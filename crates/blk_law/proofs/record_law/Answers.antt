use Rattle.blk_law.proofs.Scripts.{records}
use Rattle.blk_law.proofs.record_law.Goals as goal

pub returns : goal.returns
returns c = λ image entry asks has sized pages put came room script answers. records image entry asks has sized pages put came room script answers

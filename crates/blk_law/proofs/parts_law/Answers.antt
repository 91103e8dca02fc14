use Rattle.blk_law.proofs.Parts.{parts_apart}
use Rattle.blk_law.proofs.parts_law.Goals as goal

pub returns : goal.returns
returns c = λ sector disk j k one other few less ne p q x inside. parts_apart sector disk j k one other few less ne p q x inside

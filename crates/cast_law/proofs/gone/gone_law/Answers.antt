use Rattle.cast_law.proofs.GoneLemmas.Gone.{have_gone, hand_over}
use Rattle.cast_law.proofs.gone.gone_law.Goals as goal

pub returns-clause-held : goal.returns-clause-held
returns-clause-held c = λ rows rings olds news actors ended gone done. have_gone rows rings olds news actors ended gone done

pub returns-clause-hands_over : goal.returns-clause-hands_over
returns-clause-hands_over c = λ rows rings olds news actors ended gone done calls n. hand_over rows rings olds news actors ended gone done calls n

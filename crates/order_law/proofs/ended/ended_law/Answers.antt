use Rattle.order_law.proofs.EndedLemmas.Leaving.{are_left}
use Rattle.order_law.proofs.ended.ended_law.Goals as goal

pub returns : goal.returns
returns c = λ rows rings parts actors ended peopled apart done. are_left rows rings parts actors ended apart peopled done

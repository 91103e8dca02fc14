use Rattle.play_core.proofs.RestsLemmas.Settling.{all_here}
use Rattle.play_core.proofs.rests.rest_law.Goals as goal

pub returns : goal.returns
returns c = λ history journal world posts needs wants bells meet. all_here history journal world bells posts needs wants meet

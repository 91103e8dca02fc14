use Rattle.net_copier.proofs.Turns.{drop_turn}
use Rattle.net_copier.proofs.turn_law.Goals as goal

pub returns : goal.returns
returns c = drop_turn

use Rattle.wired_law.proofs.PageLaw.TurnsLemmas.Turning.{in_turn, back_good}
use Rattle.wired_law.proofs.page_law.turns.turn_law.Goals as goal

pub returns-clause-turn : goal.returns-clause-turn
returns-clause-turn c = in_turn

pub returns-clause-back : goal.returns-clause-back
returns-clause-back c = back_good

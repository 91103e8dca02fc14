use Rattle.net_quiet.proofs.TxTurns.Turning.{none_stray, takes_good}
use Rattle.net_quiet.proofs.tx_turns.turn_law.Goals as goal

pub returns-clause-turn : goal.returns-clause-turn
returns-clause-turn c = none_stray

pub returns-clause-good : goal.returns-clause-good
returns-clause-good c = takes_good

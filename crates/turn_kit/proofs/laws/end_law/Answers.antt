use Rattle.turn_kit.proofs.EveryState.{seven, six}
use Rattle.turn_kit.proofs.Turning.{post_nearer, post_settles, post_moving}
use Rattle.turn_kit.proofs.Waking.{then_settled}
use Rattle.turn_kit.proofs.laws.end_law.Goals as goal

pub returns-clause-seven : goal.returns-clause-seven
returns-clause-seven c k need = seven k need

pub returns-clause-six : goal.returns-clause-six
returns-clause-six c k need = six k need

pub returns-clause-nearer : goal.returns-clause-nearer
returns-clause-nearer c p q need e h m s = post_nearer p q need e h m s

pub returns-clause-settles : goal.returns-clause-settles
returns-clause-settles c p q need e h m s g = post_settles p q need e h m s g

pub returns-clause-moves : goal.returns-clause-moves
returns-clause-moves c p q need e h m s = post_moving p q need e h m s

pub returns-clause-stays : goal.returns-clause-stays
returns-clause-stays c p q need e h m s = then_settled p q need e h m s

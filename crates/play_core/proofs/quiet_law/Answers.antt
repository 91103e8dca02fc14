use Rattle.play_core.proofs.Stillness.{rests_now, pays_now}
use Rattle.play_core.proofs.Quieting.{quiet_still}
use Rattle.play_core.proofs.quiet_law.Goals as goal

pub returns-clause-still : goal.returns-clause-still
returns-clause-still c = quiet_still

pub returns-clause-rests : goal.returns-clause-rests
returns-clause-rests c = rests_now

pub returns-clause-pays : goal.returns-clause-pays
returns-clause-pays c = pays_now

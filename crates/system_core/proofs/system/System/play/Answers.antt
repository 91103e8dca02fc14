use Rattle.system_core.proofs.Together.{stays_of_plan}
use Rattle.system_core.proofs.system.System.play.Goals as goal

pub returns-clause-system : goal.returns-clause-system
returns-clause-system c = stays_of_plan _ _ c.args.seed c.args.limit c.play_on-ending.ensures.played c.stand.ensures.of_plan

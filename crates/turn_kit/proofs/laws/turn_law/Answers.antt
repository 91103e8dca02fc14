use Rattle.turn_kit.proofs.Turning.{loose_chosen, rest_chosen}
use Rattle.turn_kit.proofs.laws.turn_law.Goals as goal

pub returns-clause-unsettled : goal.returns-clause-unsettled
returns-clause-unsettled c r m e ok t rest = loose_chosen r e m t ok rest

pub returns-clause-settled : goal.returns-clause-settled
returns-clause-settled c r m e ok t rest = rest_chosen r e m t ok rest

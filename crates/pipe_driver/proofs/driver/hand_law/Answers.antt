use Rattle.pipe_driver.proofs.Holding.{balance_of}
use Rattle.pipe_driver.proofs.driver.hand_law.Goals as goal

pub returns : goal.returns
returns c = balance_of

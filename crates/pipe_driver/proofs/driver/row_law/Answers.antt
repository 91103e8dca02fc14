use Rattle.pipe_driver.proofs.Holding.{row_of}
use Rattle.pipe_driver.proofs.driver.row_law.Goals as goal

pub returns : goal.returns
returns c = row_of

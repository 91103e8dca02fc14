use Rattle.pipe_driver.proofs.Forgets.{forgotten_fit, forgotten_stand}
use Rattle.pipe_driver.proofs.driver.PipeDriver.forget.Goals as goal

pub returns-clause-fits : goal.returns-clause-fits
returns-clause-fits g c = λ ends h. forgotten_fit ends _ _ c.forget.ensures h

pub returns-clause-lists : goal.returns-clause-lists
returns-clause-lists g c = λ passed h. forgotten_stand passed _ _ c.forget.ensures h

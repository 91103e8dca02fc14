use Rattle.i2c_play.proofs.Fitting.{fit_bus}
use Rattle.i2c_play.proofs.playing.fit_law.Goals as goal

pub returns : goal.returns
returns c = λ bus read. fit_bus bus read (c.bus_limits_law.ensures bus read)

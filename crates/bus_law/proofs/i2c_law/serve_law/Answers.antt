use Rattle.bus_law.proofs.I2cLaw.Serving.{served_alone}
use Rattle.bus_law.proofs.i2c_law.serve_law.Goals as goal

pub returns : goal.returns
returns c = served_alone

use Rattle.bus_law.proofs.I2cLaw.Combining.{judged_alone}
use Rattle.bus_law.proofs.i2c_law.judge_law.Goals as goal

pub returns : goal.returns
returns c = judged_alone

use Rattle.bus_law.proofs.I2cLaw.Walking.{alone_is, alone_begins}
use Rattle.bus_law.proofs.i2c_law.alone_law.Goals as goal

pub returns-clause-alone : goal.returns-clause-alone
returns-clause-alone c = alone_is

pub returns-clause-begins : goal.returns-clause-begins
returns-clause-begins c = alone_begins

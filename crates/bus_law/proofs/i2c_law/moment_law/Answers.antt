use Rattle.bus_law.proofs.I2cLaw.Meeting.{meets}
use Rattle.bus_law.proofs.i2c_law.moment_law.Goals as goal

pub returns : goal.returns
returns c = λ clients addresses log sent back all client there pool script put given came replies mine.
    meets clients addresses log sent back all client there pool script put given came replies mine

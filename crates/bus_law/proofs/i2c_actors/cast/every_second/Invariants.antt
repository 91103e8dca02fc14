use Rattle.bus_law.specs.I2cActors.Casting.{AreEverySecond}
use Rattle.bus_law.proofs.i2c_actors.cast.every_second.Given as goal

abbrev pub invariant-loop-client : goal.invariant-loop-client
invariant-loop-client l = AreEverySecond l.first l.client l.queues.items

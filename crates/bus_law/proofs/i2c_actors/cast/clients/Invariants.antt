use Rattle.bus_law.proofs.I2cActors.Fresh.{AreFreshTo}
use Rattle.bus_law.proofs.i2c_actors.cast.clients.Given as goal

abbrev pub invariant-loop-place : goal.invariant-loop-place
invariant-loop-place l = AreFreshTo l.place l.asks l.members.items

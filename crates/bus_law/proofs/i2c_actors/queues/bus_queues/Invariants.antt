use Rattle.std.proofs.Common.{◌≤◌}
use Rattle.bus_law.proofs.I2cActors.Queueing.{SoFar}
use Rattle.bus_law.proofs.i2c_actors.queues.bus_queues.Given as goal

abbrev pub invariant-loop-client : goal.invariant-loop-client
invariant-loop-client l = SoFar l.client l.clients l.queues.items × (l.client ≤ l.clients)

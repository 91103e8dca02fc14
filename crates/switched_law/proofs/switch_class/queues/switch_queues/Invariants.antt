use Rattle.std.proofs.Common.{◌≤◌}
use Rattle.switched_law.proofs.SwitchClass.Queueing.{SoFar}
use Rattle.switched_law.proofs.switch_class.queues.switch_queues.Given as goal

abbrev pub invariant-loop-port : goal.invariant-loop-port
invariant-loop-port l = SoFar l.port l.ports l.queues.items × (l.port ≤ l.ports)

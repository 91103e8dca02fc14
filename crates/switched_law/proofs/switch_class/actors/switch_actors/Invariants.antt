use Rattle.std.proofs.Common.{◌≤◌}
use Rattle.switched_law.specs.SwitchClass.Starting.{AreClients}
use Rattle.switched_law.proofs.switch_class.actors.switch_actors.Given as goal

abbrev pub invariant-loop-port : goal.invariant-loop-port
invariant-loop-port l = AreClients l.ports l.port l.actors.items × (l.port ≤ l.count)

use Rattle.std.proofs.Common.{◌≤◌, length}
use Rattle.switched_law.specs.SwitchClass.Starting.{AreEnds}
use Rattle.switched_law.proofs.switch_class.actors.all_ends.Given as goal

abbrev pub invariant-loop-port : goal.invariant-loop-port
invariant-loop-port l = AreEnds l.macs l.port l.ends.items × (l.port ≤ length l.macs)

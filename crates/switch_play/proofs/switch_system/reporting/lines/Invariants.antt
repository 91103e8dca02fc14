use Rattle.std.proofs.Common.{◌≡◌, ◌≤◌}
use Rattle.switch_play.specs.SwitchSystem.Lines.{lines_from, counted}
use Rattle.switch_play.proofs.switch_system.reporting.lines.Given as goal

abbrev pub invariant-loop-port : goal.invariant-loop-port
invariant-loop-port l = (l.lines ≡ lines_from (counted l.world) 0 l.port) × (l.port ≤ l.ports)

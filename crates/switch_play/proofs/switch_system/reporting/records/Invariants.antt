use Rattle.std.proofs.Common.{◌≤◌}
use Rattle.switch_play.specs.SwitchSystem.Reporting.{AreRecords}
use Rattle.switch_play.proofs.switch_system.reporting.records.Given as goal

abbrev pub invariant-loop-place : goal.invariant-loop-place
invariant-loop-place l = AreRecords l.actors l.place l.records × (l.place ≤ l.count)

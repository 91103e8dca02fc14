use Rattle.std.proofs.Common.{◌≡◌, ◌-◌, ◌<◌, ◌≤◌, length, drop}
use Rattle.report_text.specs.Runs.{runs_of}
use Rattle.report_text.proofs.RunLemmas.{lengthened}
use Rattle.report_text.proofs.report.first_run.Given as goal

abbrev pub decreases-loop-times : goal.decreases-loop-times
decreases-loop-times l = length l.bytes - l.times

abbrev pub invariant-loop-times : goal.invariant-loop-times
invariant-loop-times l = (0 < l.times) × (l.times ≤ length l.bytes) × (runs_of l.bytes ≡ lengthened l.times l.first (runs_of (drop l.times l.bytes)))

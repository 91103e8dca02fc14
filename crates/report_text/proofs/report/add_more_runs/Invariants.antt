use Rattle.std.proofs.Common.{◌≡◌, ◌++◌, ◌-◌, ◌≤◌, length, drop, string_bytes}
use Rattle.report_text.specs.Runs.{runs_of, more_runs_text}
use Rattle.report_text.proofs.report.add_more_runs.Given as goal

abbrev pub decreases-loop-at : goal.decreases-loop-at
decreases-loop-at l = length l.bytes - l.at

-- what was written and what is left is the whole
abbrev pub invariant-loop-at : goal.invariant-loop-at
invariant-loop-at l = (l.at ≤ length l.bytes) × (string_bytes l.to ++ more_runs_text (runs_of (drop l.at l.bytes)) ≡ string_bytes l.initial.to ++ more_runs_text (runs_of l.bytes))

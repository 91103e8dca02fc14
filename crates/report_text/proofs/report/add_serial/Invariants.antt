use Rattle.std.proofs.Common.{◌≡◌, ◌++◌, drop, string_bytes}
use Rattle.report_text.specs.Lines.{text_of}
use Rattle.report_text.specs.Reports.{each_numbered, serial_lines}
use Rattle.report_text.proofs.report.add_serial.Given as goal

-- what was written and what is left is the whole
abbrev pub invariant-loop-k : goal.invariant-loop-k
invariant-loop-k l = string_bytes l.to ++ text_of (each_numbered serial_lines l.k (drop l.k l.clients)) ≡ string_bytes l.initial.to ++ text_of (each_numbered serial_lines 0 l.clients)

use Rattle.std.proofs.Common.{◌≡◌, ◌++◌, drop, string_bytes}
use Rattle.report_text.specs.Lines.{text_of}
use Rattle.report_text.specs.Reports.{one_numbered, net_line}
use Rattle.report_text.proofs.summary.add_net.Given as goal

-- what was written and what is left is the whole
abbrev pub invariant-loop-k : goal.invariant-loop-k
invariant-loop-k l = string_bytes l.to ++ text_of (one_numbered net_line l.k (drop l.k l.clients)) ≡ string_bytes l.initial.to ++ text_of (one_numbered net_line 0 l.clients)

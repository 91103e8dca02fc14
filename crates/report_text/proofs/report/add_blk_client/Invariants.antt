use Rattle.std.proofs.Common.{◌≡◌, ◌++◌, map, drop, string_bytes}
use Rattle.report_text.specs.Lines.{text_of}
use Rattle.report_text.specs.Reports.{reply_line, blk_lines}
use Rattle.report_text.proofs.report.add_blk_client.Given as goal

-- what was written and what is left is the whole
abbrev pub invariant-loop-k : goal.invariant-loop-k
invariant-loop-k l = string_bytes l.to ++ text_of (map reply_line (drop l.k l.replies)) ≡ string_bytes l.fn.to ++ text_of (blk_lines l.fn.c l.replies)

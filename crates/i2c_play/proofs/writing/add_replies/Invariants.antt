use Rattle.std.proofs.Common.{◌≡◌, ◌++◌, drop, string_bytes}
use Rattle.report_text.specs.Lines.{text_of}
use Rattle.report_text.specs.Reports.{one_numbered}
use Rattle.i2c_play.specs.Texts.{reply_line, replies_lines}
use Rattle.i2c_play.proofs.writing.add_replies.Given as goal

-- what was written and what is left is the whole
abbrev pub invariant-loop-k : goal.invariant-loop-k
invariant-loop-k l = string_bytes l.to ++ text_of (one_numbered reply_line l.k (drop l.k l.replies)) ≡ string_bytes l.fn.to ++ text_of (replies_lines l.fn.c l.replies)

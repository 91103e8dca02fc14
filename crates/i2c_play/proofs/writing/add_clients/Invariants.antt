use Rattle.std.proofs.Common.{◌≡◌, ◌++◌, drop, string_bytes}
use Rattle.report_text.specs.Lines.{text_of}
use Rattle.report_text.specs.Reports.{each_numbered}
use Rattle.i2c_play.specs.Texts.{replies_lines}
use Rattle.i2c_play.proofs.writing.add_clients.Given as goal

-- what was written and what is left is the whole
abbrev pub invariant-loop-c : goal.invariant-loop-c
invariant-loop-c l = string_bytes l.to ++ text_of (each_numbered replies_lines l.c (drop l.c l.clients)) ≡ string_bytes l.initial.to ++ text_of (each_numbered replies_lines 0 l.clients)

use Rattle.std.proofs.Common.{◌≡◌, ◌++◌, drop, string_bytes}
use Rattle.report_text.specs.Lines.{text_of}
use Rattle.report_text.specs.Reports.{each_numbered}
use Rattle.switch_play.specs.Texts.{frames_lines}
use Rattle.switch_play.proofs.writing.add_ports.Given as goal

-- what was written and what is left is the whole
abbrev pub invariant-loop-c : goal.invariant-loop-c
invariant-loop-c l = string_bytes l.to ++ text_of (each_numbered frames_lines l.c (drop l.c l.ports)) ≡ string_bytes l.initial.to ++ text_of (each_numbered frames_lines 0 l.ports)

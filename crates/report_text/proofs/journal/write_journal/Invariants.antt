use Rattle.std.proofs.Common.{◌≡◌, ◌++◌, map, drop, string_bytes}
use Rattle.report_text.specs.Lines.{text_of}
use Rattle.report_text.specs.Journals.{entry_line, journal_text}
use Rattle.report_text.proofs.journal.write_journal.Given as goal

-- what was written and what is left is the whole
abbrev pub invariant-loop-k : goal.invariant-loop-k
invariant-loop-k l = string_bytes l.text ++ text_of (map (entry_line l.layout) (drop l.k l.journal)) ≡ journal_text l.layout l.journal

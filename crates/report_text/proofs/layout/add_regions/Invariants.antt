use Rattle.std.proofs.Common.{◌≡◌, ◌++◌, drop, string_bytes}
use Rattle.report_text.specs.Lines.{text_of}
use Rattle.report_text.specs.Layouts.{region_lines}
use Rattle.report_text.proofs.layout.add_regions.Given as goal

-- what was written and what is left is the whole
abbrev pub invariant-loop-k : goal.invariant-loop-k
invariant-loop-k l =
    string_bytes l.to ++ text_of (region_lines (drop l.k l.regions) (drop l.k l.bases)) ≡ string_bytes l.initial.to ++ text_of (region_lines l.regions l.bases)

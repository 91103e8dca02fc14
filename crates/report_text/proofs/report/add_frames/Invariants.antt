use Rattle.std.proofs.Common.{◌≡◌, ◌++◌, map, drop, string_bytes}
use Rattle.hex.specs.Hex.{encode_lower}
use Rattle.report_text.specs.Lines.{text_of}
use Rattle.report_text.proofs.report.add_frames.Given as goal

-- what was written and what is left is the whole
abbrev pub invariant-loop-k : goal.invariant-loop-k
invariant-loop-k l = string_bytes l.to ++ text_of (map encode_lower (drop l.k l.frames)) ≡ string_bytes l.initial.to ++ text_of (map encode_lower l.frames)

-- The lines of the report of a switch, field by field.
use Rattle.std.specs.Prelude.{ℕ, List, [], ◌∷◌, ◌++◌, length, map, codes}
use Rattle.std.specs.Fmt.{decimal}
use Rattle.hex.specs.Hex.{encode_lower}
use Rattle.line_text.specs.declared.ports_text.report.PortReport.{PortReport}
use Rattle.report_text.specs.Lines.{text_of}
use Rattle.report_text.specs.Reports.{ending_line, steps_line, pool_line, each_numbered}

-- how many frames a port recorded
abbrev pub frames_line : ℕ → List (List ℕ) → List ℕ
frames_line c frames =
    codes "port " ++ (decimal c ++ (codes " frames " ++ decimal (length frames)))

-- the frames of a port: their number, and each on a line
abbrev pub frames_lines : ℕ → List (List ℕ) → List (List ℕ)
frames_lines c frames = frames_line c frames ∷ map encode_lower frames

-- how many frames no port got
abbrev pub lost_line : ℕ → List ℕ
lost_line n = codes "lost " ++ decimal n

-- the lines of the report
abbrev pub ports_lines : PortReport → List (List ℕ)
ports_lines r =
    ending_line r.quiet ∷ steps_line r.steps
    ∷ each_numbered frames_lines 0 r.records ++ map pool_line r.pools ++ lost_line r.lost ∷ []

-- the text of the report
abbrev pub ports_text : PortReport → List ℕ
ports_text r = text_of (ports_lines r)

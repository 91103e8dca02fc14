-- What the reader of lines keeps, for its own contracts alone.
use Rattle.std.specs.Prelude.{◌≡◌, ◌+◌, ◌||◌, nat_le, nat_lt, Bool, true, false, List, [], ◌∷◌}
use Rattle.std.specs.Prelude.{◌++◌, length, count_by, Option, Some, None, MatchBool}
use Rattle.line_text.specs.Lists.{grown_at}
use Rattle.line_text.specs.declared.ports_text.line.Line.{Line}
use Rattle.line_text.specs.declared.ports_text.line.Line.TheVariants as Says
use Rattle.line_text.specs.declared.ports_text.reader.Reader.{Reader}
use Rattle.line_text.specs.PortsText.Given.{ports_from, is_send, is_among, ports_most, sends_most}

-- what the reader keeps after these lines
abbrev pub reader_after : List Line → Reader
reader_after lines = record {
  ports = ports_from lines;
  sent = count_by is_send lines;
}

-- whether the reader refuses a line
abbrev pub is_refused : Reader → Line → Bool
is_refused r Says.Skipped = false
is_refused r (Says.Port mac) = (nat_lt 0 r.sent || nat_le ports_most (length r.ports.macs))
    || is_among mac r.ports.macs
is_refused r (Says.Send c frame) = nat_le (length r.ports.macs) c || nat_le sends_most r.sent

-- what the reader keeps after a line that it takes
abbrev pub reader_with : Reader → Line → Reader
reader_with r Says.Skipped = r
reader_with r (Says.Port mac) = record r {
  ports = record r.ports {
    macs = r.ports.macs ++ mac ∷ [];
    sends = r.ports.sends ++ [] ∷ [];
  };
}
reader_with r (Says.Send c frame) = record r {
  ports = record r.ports { sends = grown_at r.ports.sends c (frame ∷ []) };
  sent = r.sent + 1;
}

-- how a line was taken, or found bad
abbrev pub IsTaken : Reader → Reader → Bool → Line → Type 0
IsTaken old new good line =
    MatchBool good ((is_refused old line ≡ false) × (reader_with old line ≡ new))
    (is_refused old line ≡ true)

-- how a line of this meaning was read: taken, or found bad
abbrev pub IsRead : Reader → Reader → Bool → Option Line → Type 0
IsRead old new good None = good ≡ false
IsRead old new good (Some line) = IsTaken old new good line

-- the reader has a list for each port
abbrev pub HasLists : Reader → Type 0
HasLists r = length r.ports.sends ≡ length r.ports.macs

-- What the reader of lines keeps, for its own contracts alone.
use Rattle.std.specs.Prelude.{◌≡◌, ℕ, zero, suc, ◌+◌, ◌^◌, ◌≤◌, ◌==◌, ◌||◌, nat_le, nat_lt, Bool}
use Rattle.std.specs.Prelude.{true, false, if◌then◌else◌, List, [], ◌∷◌, ◌++◌, length, count_by}
use Rattle.std.specs.Prelude.{Option, Some, None, MatchBool}
use Rattle.std.specs.List.{list_any}
use Rattle.i2c_text.specs.declared.line.Line.{Line}
use Rattle.i2c_text.specs.declared.line.Line.TheVariants as Says
use Rattle.i2c_text.specs.declared.reader.Reader.{Reader}
use Rattle.line_text.specs.Lists.{per_client, grown_at}
use Rattle.i2c_text.specs.Buses.{bus_from, is_said, is_ask, asks_most}

-- what the reader keeps after these lines
abbrev pub reader_after : List Line → Reader
reader_after lines = record {
  bus = bus_from lines;
  begun = nat_lt 0 (count_by is_said lines);
  asked = count_by is_ask lines;
}

-- whether the reader refuses a line
abbrev pub is_refused : Reader → Line → Bool
is_refused r Says.Skipped = false
is_refused r (Says.Clients n) = r.begun
is_refused r (Says.Device a) = list_any (λ d. d == a) r.bus.devices
is_refused r (Says.Ask c ask) = nat_le r.bus.clients c || nat_le asks_most r.asked

-- what the reader keeps after a line that it takes
abbrev pub reader_with : Reader → Line → Reader
reader_with r Says.Skipped = r
reader_with r (Says.Clients n) = record r {
  bus = record r.bus { clients = n; asks = per_client n (λ _. []) };
  begun = true;
}
reader_with r (Says.Device a) = record r {
  bus = record r.bus { devices = r.bus.devices ++ a ∷ [] };
  begun = true;
}
reader_with r (Says.Ask c ask) = record r {
  bus = record r.bus { asks = grown_at r.bus.asks c (ask ∷ []) };
  begun = true;
  asked = r.asked + 1;
}

-- how a line was taken, or found bad
abbrev pub IsTaken : Reader → Reader → Bool → Line → Type 0
IsTaken old new good line =
    MatchBool good ((is_refused old line ≡ false) × (reader_with old line ≡ new))
    (is_refused old line ≡ true)

-- how a line of this meaning was read: taken, or found bad
abbrev pub IsRead : Reader → Reader → Bool → Option Line → Type 0
IsRead old new good None = good ≡ false
IsRead old new good (Some line) = IsTaken old new good line

-- the reader has a list for each client
abbrev pub HasLists : Reader → Type 0
HasLists r = length r.bus.asks ≡ r.bus.clients

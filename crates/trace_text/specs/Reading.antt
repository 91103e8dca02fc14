-- What the reader of lines keeps, for its own contracts alone.
use Rattle.std.specs.Prelude.{◌≡◌, ℕ, zero, suc, ◌+◌, ◌*◌, ◌^◌, ◌<◌, ◌≤◌, ◌==◌, ◌||◌, nat_le}
use Rattle.std.specs.Prelude.{nat_lt, Bool, false, if◌then◌else◌, List, [], ◌∷◌, ◌++◌, length}
use Rattle.std.specs.Prelude.{count_by, sum_by, replicate, Option, Some, None, MatchBool}
use Rattle.cargo_core.specs.Blocks.{sector_bytes}
use Rattle.cargo_core.specs.Lists.{replaced}
use Rattle.cargo_core.specs.declared.act.Act.{Act}
use Rattle.sdf_plan.specs.declared.plan.Plan.{Plan}
use Rattle.line_text.specs.Lists.{grown_at}
use Rattle.trace_text.specs.declared.class.Class.{Class}
use Rattle.trace_text.specs.declared.class.Class.TheVariants as Of
use Rattle.trace_text.specs.declared.reader.Reader.{Reader}
use Rattle.trace_text.specs.declared.trace.Trace.{Trace}
use Rattle.trace_text.specs.Events.{Event, net_clients, serial_clients, blk_clients}
use Rattle.trace_text.specs.Traces.{trace_from, is_frame_line, is_request_line, is_rogue_line}
use Rattle.trace_text.specs.Traces.{is_disk_line, stream_bytes_in}
use Rattle.trace_text.specs.Limits.{lines_most, stream_most}

-- how many clients a class has
abbrev pub clients_in : Plan → Class → ℕ
clients_in plan Of.Net = length (net_clients plan)
clients_in plan Of.Serial = length (serial_clients plan)
clients_in plan Of.Blk = length (blk_clients plan)

-- what the reader keeps after the lines that said these events
abbrev pub reader_after : Plan → List Event → Reader
reader_after plan events = record {
  trace = trace_from plan events;
  frame_lines = count_by is_frame_line events;
  stream_bytes = sum_by stream_bytes_in events;
  request_lines = count_by is_request_line events;
  rogue_lines = count_by is_rogue_line events;
  disk_lines = count_by is_disk_line events;
}

-- whether the reader refuses an event
abbrev pub is_refused : Reader → Event → Bool
is_refused r Event.Skipped = false
is_refused r (Event.Rx frame) = nat_le lines_most r.frame_lines
is_refused r (Event.Send c frame) = nat_le lines_most r.frame_lines
is_refused r (Event.In bytes) = nat_lt stream_most (r.stream_bytes + length bytes)
is_refused r (Event.Say c bytes) = nat_lt stream_most (r.stream_bytes + length bytes)
is_refused r (Event.Disk sectors) = nat_lt 0 r.disk_lines
is_refused r (Event.Patch at bytes) =
    r.disk_lines == 0 || nat_lt (length r.trace.image) (at + length bytes)
is_refused r (Event.Request c ask) = nat_le lines_most r.request_lines
is_refused r (Event.Rogue class c act) = nat_le lines_most r.rogue_lines

-- the trace with one more act of a client
abbrev pub with_act : Trace → Class → ℕ → Act → Trace
with_act trace Of.Net c act =
    record trace { net_acts = grown_at trace.net_acts c (act ∷ []) }
with_act trace Of.Serial c act =
    record trace { serial_acts = grown_at trace.serial_acts c (act ∷ []) }
with_act trace Of.Blk c act =
    record trace { blk_acts = grown_at trace.blk_acts c (act ∷ []) }

-- what the reader keeps after an event that it takes
abbrev pub reader_with : Reader → Event → Reader
reader_with r Event.Skipped = r
reader_with r (Event.Rx frame) = record r {
  trace = record r.trace { frames = r.trace.frames ++ frame ∷ [] };
  frame_lines = r.frame_lines + 1;
}
reader_with r (Event.Send c frame) = record r {
  trace = record r.trace { sends = grown_at r.trace.sends c (frame ∷ []) };
  frame_lines = r.frame_lines + 1;
}
reader_with r (Event.In bytes) = record r {
  trace = record r.trace { input = r.trace.input ++ bytes };
  stream_bytes = r.stream_bytes + length bytes;
}
reader_with r (Event.Say c bytes) = record r {
  trace = record r.trace { says = grown_at r.trace.says c bytes };
  stream_bytes = r.stream_bytes + length bytes;
}
reader_with r (Event.Disk sectors) = record r {
  trace = record r.trace { image = replicate (sector_bytes * sectors) 0 };
  disk_lines = r.disk_lines + 1;
}
reader_with r (Event.Patch at bytes) =
    record r { trace = record r.trace { image = replaced r.trace.image at bytes } }
reader_with r (Event.Request c ask) = record r {
  trace = record r.trace { asks = grown_at r.trace.asks c (ask ∷ []) };
  request_lines = r.request_lines + 1;
}
reader_with r (Event.Rogue class c act) = record r {
  trace = with_act r.trace class c act;
  rogue_lines = r.rogue_lines + 1;
}

-- what the reader keeps after a line of this meaning: none where the line is bad
abbrev pub after_line : Reader → Option Event → Option Reader
after_line r None = None
after_line r (Some event) = if is_refused r event then None else Some (reader_with r event)

-- how a line was read: taken, or found bad
abbrev pub IsRead : Reader → Reader → Bool → Option Event → Type 0
IsRead old new good event = MatchBool good (after_line old event ≡ Some new)
    (after_line old event ≡ None)

-- the reader has a list for each client of the plan
pub record HasLists (plan : Plan) (r : Reader) : Type 0 where
  pub sends : length r.trace.sends ≡ length (net_clients plan)
  pub says : length r.trace.says ≡ length (serial_clients plan)
  pub asks : length r.trace.asks ≡ length (blk_clients plan)
  pub net_acts : length r.trace.net_acts ≡ length (net_clients plan)
  pub serial_acts : length r.trace.serial_acts ≡ length (serial_clients plan)
  pub blk_acts : length r.trace.blk_acts ≡ length (blk_clients plan)

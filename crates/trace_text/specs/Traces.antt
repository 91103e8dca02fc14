-- Which lines are bad, and the trace that the others give.
use Rattle.std.specs.Prelude.{◌≡◌, ℕ, zero, suc, ◌+◌, ◌*◌, ◌<◌, ◌≤◌, ◌==◌, ◌&&◌, ◌||◌, nat_le}
use Rattle.std.specs.Prelude.{nat_lt, Bool, true, false, if◌then◌else◌, List, [], ◌∷◌, length, take}
use Rattle.std.specs.Prelude.{fold, sum_by, count_by, replicate, slice_get, Option, Some, None}
use Rattle.std.specs.Prelude.{is_some}
use Rattle.std.specs.List.{flat_map, filter_map}
use Rattle.cargo_core.specs.Blocks.{sector_bytes}
use Rattle.cargo_core.specs.Lists.{replaced}
use Rattle.cargo_core.specs.declared.act.Act.{Act}
use Rattle.cargo_core.specs.declared.item.Ask.{Ask}
use Rattle.sdf_plan.specs.declared.plan.Plan.{Plan}
use Rattle.trace_text.specs.declared.class.Class.{Class}
use Rattle.trace_text.specs.declared.class.Class.TheVariants as Of
use Rattle.trace_text.specs.declared.trace.Trace.{Trace}
use Rattle.line_text.specs.Texts.{lines_of}
pub use Rattle.line_text.specs.Lists.{per_client}
use Rattle.trace_text.specs.Events.{Event, meaning, net_clients, serial_clients, blk_clients}
use Rattle.trace_text.specs.Limits.{lines_most, stream_most}

-- what an event gives to the frames from outside
abbrev pub frames_in : Event → List (List ℕ)
frames_in (Event.Rx frame) = frame ∷ []
frames_in _ = []

-- what an event gives to the input
abbrev pub input_in : Event → List ℕ
input_in (Event.In bytes) = bytes
input_in _ = []

-- what an event gives to the frames of a network client
abbrev pub sends_in : ℕ → Event → List (List ℕ)
sends_in client (Event.Send c frame) = if c == client then frame ∷ [] else []
sends_in client _ = []

-- what an event gives to the bytes of a serial client
abbrev pub says_in : ℕ → Event → List ℕ
says_in client (Event.Say c bytes) = if c == client then bytes else []
says_in client _ = []

-- what an event gives to the requests of a block client
abbrev pub asks_in : ℕ → Event → List Ask
asks_in client (Event.Request c ask) = if c == client then ask ∷ [] else []
asks_in client _ = []

-- whether two classes are the same
abbrev pub is_same_class : Class → Class → Bool
is_same_class Of.Net Of.Net = true
is_same_class Of.Serial Of.Serial = true
is_same_class Of.Blk Of.Blk = true
is_same_class _ _ = false

-- what an event gives to the acts of a hostile client of a class
abbrev pub acts_in : Class → ℕ → Event → List Act
acts_in class client (Event.Rogue k c act) =
    if is_same_class k class && c == client then act ∷ [] else []
acts_in class client _ = []

-- the image after one more event
abbrev pub image_after : List ℕ → Event → List ℕ
image_after image (Event.Disk sectors) = replicate (sector_bytes * sectors) 0
image_after image (Event.Patch at bytes) = replaced image at bytes
image_after image _ = image

-- the image that the events give: zeros, with bytes replaced in the order of the lines
abbrev pub image_of : List Event → List ℕ
image_of events = fold image_after [] events

-- the trace that the events give
unfoldable pub trace_from : Plan → List Event → Trace
trace_from plan events = record {
  frames = flat_map frames_in events;
  input = flat_map input_in events;
  sends = per_client (length (net_clients plan)) (λ c. flat_map (sends_in c) events);
  says = per_client (length (serial_clients plan)) (λ c. flat_map (says_in c) events);
  asks = per_client (length (blk_clients plan)) (λ c. flat_map (asks_in c) events);
  image = image_of events;
  net_acts = per_client (length (net_clients plan)) (λ c. flat_map (acts_in Of.Net c) events);
  serial_acts =
      per_client (length (serial_clients plan)) (λ c. flat_map (acts_in Of.Serial c) events);
  blk_acts = per_client (length (blk_clients plan)) (λ c. flat_map (acts_in Of.Blk c) events);
}

-- the line counts towards the limit of frames: it gives one
abbrev pub is_frame_line : Event → Bool
is_frame_line (Event.Rx frame) = true
is_frame_line (Event.Send c frame) = true
is_frame_line _ = false

-- the bytes of a line that count towards the limit of bytes
abbrev pub stream_bytes_in : Event → ℕ
stream_bytes_in (Event.In bytes) = length bytes
stream_bytes_in (Event.Say c bytes) = length bytes
stream_bytes_in _ = 0

-- the line counts towards the limit of requests: it gives one
abbrev pub is_request_line : Event → Bool
is_request_line (Event.Request c ask) = true
is_request_line _ = false

-- the line counts towards the limit of acts: it gives one
abbrev pub is_rogue_line : Event → Bool
is_rogue_line (Event.Rogue class c act) = true
is_rogue_line _ = false

-- the line is a `disk` line
abbrev pub is_disk_line : Event → Bool
is_disk_line (Event.Disk sectors) = true
is_disk_line _ = false

-- whether a line is bad after the lines before it: it passes a limit, is a second `disk` line, or
-- writes where no image is
abbrev pub is_out_of_place : List Event → Event → Bool
is_out_of_place before Event.Skipped = false
is_out_of_place before (Event.Rx frame) = nat_le lines_most (count_by is_frame_line before)
is_out_of_place before (Event.Send c frame) = nat_le lines_most (count_by is_frame_line before)
is_out_of_place before (Event.In bytes) =
    nat_lt stream_most (sum_by stream_bytes_in before + length bytes)
is_out_of_place before (Event.Say c bytes) =
    nat_lt stream_most (sum_by stream_bytes_in before + length bytes)
is_out_of_place before (Event.Disk sectors) = nat_lt 0 (count_by is_disk_line before)
is_out_of_place before (Event.Patch at bytes) =
    count_by is_disk_line before == 0 || nat_lt (length (image_of before)) (at + length bytes)
is_out_of_place before (Event.Request c ask) = nat_le lines_most (count_by is_request_line before)
is_out_of_place before (Event.Rogue class c act) =
    nat_le lines_most (count_by is_rogue_line before)

-- whether a line of this meaning is bad after these events
abbrev pub is_bad_after : List Event → Option Event → Bool
is_bad_after before None = true
is_bad_after before (Some event) = is_out_of_place before event

-- what the first lines of a text say
unfoldable pub events_before : Plan → List ℕ → ℕ → List Event
events_before plan text k = filter_map (meaning plan) (take k (lines_of text))

-- whether the line at a place, counted from 0, is bad; after the last line stands one that is bad
-- where the disk is missing
abbrev pub place_is_bad : Plan → List ℕ → ℕ → Option (List ℕ) → Bool
place_is_bad plan text k (Some line) = is_bad_after (events_before plan text k) (meaning plan line)
place_is_bad plan text k None =
    k == length (lines_of text)
    && (is_some plan.blk && count_by is_disk_line (events_before plan text k) == 0)

-- the line at a place, counted from 0, is bad
unfoldable pub is_bad : Plan → List ℕ → ℕ → Bool
is_bad plan text k = place_is_bad plan text k (slice_get (lines_of text) k)

-- no line is bad
abbrev pub HasNoBadLine : Plan → List ℕ → Type 0
HasNoBadLine plan text = (k : ℕ) → is_bad plan text k ≡ false

-- this line, counted from 1, is bad, and no earlier one
pub record IsLeastBadLine (plan : Plan) (text : List ℕ) (number : ℕ) : Type 0 where
  pub at : ℕ
  pub counted : number ≡ at + 1
  pub bad : is_bad plan text at ≡ true
  pub before : (k : ℕ) → k < at → is_bad plan text k ≡ false

-- the trace that a text gives
unfoldable pub trace_of : Plan → List ℕ → Trace
trace_of plan text = trace_from plan (events_before plan text (length (lines_of text)))

-- the trace is what a text without a bad line gives for this plan
pub record IsReadFor (plan : Plan) (trace : Trace) : Type 0 where
  pub text : List ℕ
  pub good : HasNoBadLine plan text
  pub given : trace ≡ trace_of plan text

-- the acts of the clients of a class
abbrev pub acts_in_class : Trace → Class → List (List Act)
acts_in_class trace Of.Net = trace.net_acts
acts_in_class trace Of.Serial = trace.serial_acts
acts_in_class trace Of.Blk = trace.blk_acts

-- the same by the number of the class: 0 network, 1 serial, 2 block
abbrev pub acts_of : Trace → ℕ → List (List Act)
acts_of trace number =
    if number == 0 then trace.net_acts
    else if number == 1 then trace.serial_acts
    else if number == 2 then trace.blk_acts
    else []

-- the trace has a list for each client, and keeps the limits on frames, bytes, requests and acts
pub record KeepsLimits (plan : Plan) (trace : Trace) : Type 0 where
  pub sends : length trace.sends ≡ length (net_clients plan)
  pub says : length trace.says ≡ length (serial_clients plan)
  pub asks : length trace.asks ≡ length (blk_clients plan)
  pub frames : length trace.frames + sum_by length trace.sends ≤ lines_most
  pub bytes : length trace.input + sum_by length trace.says ≤ stream_most
  pub requests : sum_by length trace.asks ≤ lines_most
  pub net_acts : length trace.net_acts ≡ length (net_clients plan)
  pub serial_acts : length trace.serial_acts ≡ length (serial_clients plan)
  pub blk_acts : length trace.blk_acts ≡ length (blk_clients plan)
  pub acts :
      sum_by length trace.net_acts + sum_by length trace.serial_acts + sum_by length trace.blk_acts
      ≤ lines_most

-- The lines of the clients' pools in a report, by the table of owners.
use Rattle.std.specs.Prelude.{◌≡◌, ◌+◌, ◌*◌, ◌<◌, ◌++◌, ℕ, Bool, true, false, if◌then◌else◌, not}
use Rattle.std.specs.Prelude.{Option, Some, None, List, [], codes, length, slice_get, slice_set}
use Rattle.std.specs.Fmt.{decimal}
use Rattle.std.specs.Option.{option_and_then, option_map}
use Rattle.cargo_core.specs.declared.census.Census.{Census as Line}
use Rattle.cargo_core.specs.declared.item.Item.{Item}
use Rattle.wire_core.specs.declared.names.QueueRow.{QueueRow}
use Rattle.wire_core.specs.declared.names.Entry.{Entry}
use Rattle.wire_core.specs.declared.names.Event.{Event}
use Rattle.wire_core.specs.declared.names.Op.{Op}
use Rattle.wire_core.specs.declared.names.Op.TheVariants as Do
use Rattle.wire_core.specs.Bells.{bit}
use Rattle.wire_core.specs.Journal.{start_history}
use Rattle.owner_law.specs.Things.{Buffer, Window, Names, NoBuffers, Buffers, Frames, Leases}
use Rattle.owner_law.specs.Things.{Returns, Answers, begins_at, number_at, buffer_of}
use Rattle.owner_law.specs.Owners.{InQueue, InHand, Place, Nowhere, At, Lent, Table, replay}
use Rattle.owner_law.specs.Keeping.{start_table}
use Rattle.owner_law.specs.Census.{census}
use Rattle.line_text.specs.Lists.{per_client}
use Rattle.i2c_virt.specs.declared.i2c_kit.page.TheConstants.{BUFFER_BYTES, BUFFERS}
use Rattle.bus_law.specs.BusOwners.Naming.{bus_naming}
use Rattle.bus_law.specs.BusOwners.Keepers.{bus_keepers}

-- the table of owners of a bus of so many clients after a journal, from its start on
abbrev pub table_after : (clients : ℕ) → List QueueRow → List Entry → Table
table_after clients rows journal =
    replay (bus_naming clients) (start_history rows) (start_table (bus_keepers clients)) journal

-- the line of a client's pool: its name, and how many of its two buffers stand in queues, are in
-- hands and are lent
abbrev pub pool_line : Table → (client : ℕ) → Line
pool_line t client = record {
  name = codes "i2c." ++ decimal client;
  buffers = BUFFERS;
  queues = (census t client BUFFERS).queues;
  hands = (census t client BUFFERS).hands;
  lent = (census t client BUFFERS).lent;
}

-- the lines of all clients
abbrev pub pool_lines : (clients : ℕ) → Table → List Line
pool_lines clients t = per_client clients (pool_line t)

-- the line of a client of whose two buffers it is known whether they stand in queues
abbrev pub line_by : (client : ℕ) → (first second : Bool) → Line
line_by client first second = record {
  name = codes "i2c." ++ decimal client;
  buffers = BUFFERS;
  queues = bit first + bit second;
  hands = bit (not first) + bit (not second);
  lent = 0;
}

-- the windows by which names are names of whole buffers
abbrev pub windows_of : Names → List Window
windows_of NoBuffers = []
windows_of (Buffers ws) = ws
windows_of (Frames ws receivers) = []
windows_of (Leases ws) = []
windows_of (Returns ws) = []
windows_of (Answers q ws) = []

-- the number of the buffer that begins at an address, of two from a base on
abbrev pub number_in : (base address : ℕ) → Option ℕ
number_in base address =
    let w : Window = record { pool = 0; base = base; size = BUFFER_BYTES; buffers = BUFFERS } in
    if begins_at w address then Some (number_at w address) else None

-- the place of a buffer among all buffers of the clients
abbrev pub place_of : Buffer → ℕ
place_of b = 2 * b.pool + b.no

-- the place of the buffer that an item at a queue names
abbrev pub named_place : (clients queue : ℕ) → Item → Option ℕ
named_place clients queue item =
    option_map place_of (buffer_of (windows_of (bus_naming clients queue)) item)

-- whether a call brings its item into a queue, or into a hand
abbrev pub into_queue : Op → Option Bool
into_queue Do.Put = Some true
into_queue Do.Take = Some false
into_queue Do.See = None
into_queue Do.Room = None
into_queue (Do.Ask s) = None
into_queue (Do.Waive s) = None
into_queue (Do.Wanted s) = None
into_queue (Do.Settle s) = None
into_queue (Do.Ring s) = None
into_queue (Do.Wake s) = None
into_queue (Do.Store w v) = None

-- whether each buffer stands in a queue once the one at a place, if there is one, moved
abbrev pub moved_to : List Bool → Option Bool → Option ℕ → List Bool
moved_to queued None place = queued
moved_to queued (Some to) None = queued
moved_to queued (Some to) (Some place) = slice_set queued place to

-- the same once a call was made
abbrev pub noted : (clients : ℕ) → List Bool → Event → List Bool
noted clients queued e = moved_to queued (into_queue e.op)
    (option_and_then (named_place clients e.queue.0) e.item)

-- whether a buffer that is somewhere, and isn't lent, stands in a queue
abbrev pub in_queue : Place → Option Bool
in_queue Nowhere = None
in_queue (At (InQueue n)) = Some true
in_queue (At (InHand k)) = Some false
in_queue (Lent receivers) = None

-- of each buffer of so many clients, by its place, whether it stands in a queue
pub record AreQueued (clients : ℕ) (t : Table) (queued : List Bool) : Type 0 where
  pub many : length queued ≡ 2 * clients
  pub each : (client number : ℕ) → client < clients → number < 2
      → slice_get queued (2 * client + number)
      ≡ in_queue (t.place (record { pool = client; no = number }))

-- What each actor of a switch's system wants of its ends, by what went through the queues and by
-- the order of the calls.
use Rattle.std.specs.Prelude.{◌+◌, ◌*◌, ◌==◌, ◌&&◌, if◌then◌else◌, ℕ, Bool, not, nat_lt}
use Rattle.std.specs.Prelude.{Option, Some, None, List, [], ◌++◌, length, drop, slice_get}
use Rattle.std.specs.List.{list_any}
use Rattle.frame_core.specs.declared.mac.Mac.{Mac}
use Rattle.line_text.specs.Lists.{per_client}
use Rattle.line_text.specs.declared.ports_text.ports.Ports.{Ports}
use Rattle.wire_core.specs.declared.names.Event.{Event}
use Rattle.play_core.specs.Moved.{Moved}
use Rattle.play_core.specs.Sheets.{Scene}
use Rattle.play_core.specs.Wants.{Want, intake_want, outlet_want}
use Rattle.class_expect.specs.NetExpect.Expecting.{Source}
use Rattle.net_law.specs.Parts.Parts.{NetPart, NetClient}
use Rattle.net_law.specs.Parts.Table.{net_sheet}
use Rattle.switched_law.specs.SwitchMoment.Scene.{pool_at}
use Rattle.switched_law.specs.SwitchMoment.Takes.{FromPort, frames_taken, some_below, reaching}

-- no device receives anything
abbrev pub no_scene : Scene
no_scene = record { frames = []; image = [] }

-- the part of the client of a port, which sends these frames
abbrev pub client_at : (port : ℕ) → Mac → (frames : List (List ℕ)) → NetPart
client_at port mac frames = NetClient (Source frames) mac (4 * port + 2) (4 * port + 3) (4 * port)
    (4 * port + 1) (pool_at (2 * port)) (pool_at (2 * port + 1))

-- what it wants, where there is such a port: what any client of the network does
abbrev pub client_wants : (port : ℕ) → Option Mac → Option (List (List ℕ)) → Moved → List Want
client_wants port (Some mac) (Some frames) m =
    (net_sheet no_scene (client_at port mac frames)).wants m
client_wants port (Some mac) None m = []
client_wants port None frames m = []

-- fewer entries were put to one queue than were taken from another
abbrev pub is_behind : Moved → (put taken : ℕ) → Bool
is_behind m put taken = nat_lt (length (m.sent put)) (length (m.taken taken))

-- the switch holds a frame of the port: it didn't give its buffer back
abbrev pub is_held : Moved → (port : ℕ) → Bool
is_held m port = is_behind m (4 * port + 1) (4 * port)

-- it has a buffer of the port in hand for a copy
abbrev pub is_ready : Moved → (port : ℕ) → Bool
is_ready m port = is_behind m (4 * port + 2) (4 * port + 3)

-- what it owes to the port, of what it took: what goes there and wasn't put
abbrev pub owed_to : Ports → Moved → (taken : List FromPort) → (port : ℕ) → List FromPort
owed_to ports m taken port =
    drop (length (m.sent (4 * port + 2))) (reaching ports.macs port taken)

-- it owes something to the port
abbrev pub is_owed : Ports → Moved → (taken : List FromPort) → (port : ℕ) → Bool
is_owed ports m taken port = nat_lt 0 (length (owed_to ports m taken port))

-- it owes some port a frame of this one
abbrev pub owes_of : Ports → Moved → (taken : List FromPort) → (sender : ℕ) → Bool
owes_of ports m taken sender = some_below (length ports.macs)
    (λ port. list_any (λ (x : FromPort). x.0 == sender) (owed_to ports m taken port))

-- what the switch wants: frames of each port of which it holds none; room for a buffer that goes
-- back, once nothing of its frame is owed; buffers of each port to which it owes a frame without
-- one in hand; and room for a copy that is in hand
abbrev pub switch_wants : Ports → Moved → (taken : List FromPort) → List Want
switch_wants ports m taken =
    per_client (length ports.macs) (λ port. intake_want (4 * port) (not (is_held m port)))
    ++ (per_client (length ports.macs) (λ port. outlet_want (4 * port + 1)
    (is_held m port && not (owes_of ports m taken port)))
    ++ (per_client (length ports.macs) (λ port. intake_want (4 * port + 3)
    (not (is_ready m port) && is_owed ports m taken port))
    ++ per_client (length ports.macs) (λ port. outlet_want (4 * port + 2) (is_ready m port))))

-- what each actor wants: the clients in the order of their ports, and then the switch
abbrev pub port_wants : Ports → ℕ → Moved → List Event → List Want
port_wants ports k m calls = if k == length ports.macs
    then switch_wants ports m (frames_taken ports.sends calls)
    else client_wants k (slice_get ports.macs k) (slice_get ports.sends k) m

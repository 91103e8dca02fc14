-- What a switch took, by its calls and by what the ports send: each frame with the port that sent
-- it, in the order of the switch's takes; and to which ports each goes.
use Rattle.std.specs.Prelude.{ℕ, zero, suc, ◌+◌, ◌*◌, ◌==◌, ◌&&◌, ◌||◌, if◌then◌else◌, Bool, false}
use Rattle.std.specs.Prelude.{not, List, [], ◌∷◌, ◌++◌, length, map, slice_get}
use Rattle.std.specs.List.{filter}
use Rattle.std.specs.Option.{option_map, option_to_list}
use Rattle.frame_core.specs.declared.mac.Mac.{Mac}
use Rattle.wire_core.specs.declared.names.Event.{Event}
use Rattle.buffer_kit.specs.Clients.{is_so}
use Rattle.buffer_kit.specs.Entries.{frame_of}
use Rattle.class_expect.specs.NetExpect.Expecting.{is_for_client}
use Rattle.net_switch.specs.SwitchDesk.Frames.{Sent}
use Rattle.net_switch.specs.Ends.{is_take}
use Rattle.net_switch.specs.Switching.{takes_on}

-- a frame with the number of the port that sent it
abbrev pub FromPort : Type 0
FromPort = ℕ × List ℕ

-- of an entry that the switch took
abbrev pub told : Sent → FromPort
told x = (x.0, frame_of x.1)

-- a call takes at the queue of a port's frames
abbrev pub takes_from : (port : ℕ) → Event → Bool
takes_from port e = is_take e.op && e.queue.0 == 4 * port

-- what a call took after these calls, of the ports from a number on that send so: the next frame of
-- the port at whose queue it took
abbrev pub next_frame : (port : ℕ) → (sends : List (List (List ℕ))) → (before : List Event) → Event
    → List FromPort
next_frame port [] before e = []
next_frame port (frames ∷ sends) before e =
    (if takes_from port e then option_to_list (option_map (λ (frame : List ℕ). (port, frame))
    (slice_get frames (takes_on (4 * port) before))) else [])
    ++ next_frame (port + 1) sends before e

-- what these calls took, one after another, where others came before
abbrev pub frames_after : (sends : List (List (List ℕ))) → (before : List Event) → List Event
    → List FromPort
frames_after sends before [] = []
frames_after sends before (e ∷ es) =
    next_frame 0 sends before e ++ frames_after sends (before ++ e ∷ []) es

-- what the switch took by these calls of what the ports send
abbrev pub frames_taken : (sends : List (List (List ℕ))) → List Event → List FromPort
frames_taken sends calls = frames_after sends [] calls

-- it goes to a port: another one sent it, and it is for the port's address or for all stations
abbrev pub reaches : List Mac → (port : ℕ) → FromPort → Bool
reaches macs port x =
    not (x.0 == port) && is_so (λ (mac : Mac). is_for_client mac x.1) (slice_get macs port)

-- some number below one is so
abbrev pub some_below : ℕ → (ℕ → Bool) → Bool
some_below zero p = false
some_below (suc n) p = some_below n p || p n

-- it goes to no port
abbrev pub reaches_none : List Mac → FromPort → Bool
reaches_none macs x = not (some_below (length macs) (λ port. reaches macs port x))

-- those that go to a port
abbrev pub reaching : List Mac → (port : ℕ) → List FromPort → List FromPort
reaching macs port xs = filter (reaches macs port) xs

-- the frames alone
abbrev pub frames_in : List FromPort → List (List ℕ)
frames_in xs = map (λ (x : FromPort). x.1) xs

-- the frames of one port
abbrev pub sent_by : (port : ℕ) → List FromPort → List (List ℕ)
sent_by port xs = frames_in (filter (λ (x : FromPort). x.0 == port) xs)

-- Which frames of a switch's ports go to which port.
use Rattle.std.specs.Prelude.{◌==◌, ℕ, Bool, false, List, map, slice_index_or, slice_set}
use Rattle.std.specs.List.{filter}
use Rattle.frame_core.specs.declared.mac.Mac.{Mac}
use Rattle.wire_core.specs.Deeds.{Cargo}
use Rattle.class_expect.specs.NetExpect.Expecting.{is_for_client}
use Rattle.net_virt_rx.specs.Sharing.{how_many}
use Rattle.buffer_kit.specs.Entries.{frame_of}

-- what a switch took: the place of the port that sent it, and its entry
abbrev pub Sent : Type 0
Sent = ℕ × Cargo

-- to which ports it goes: to those that its frame is for, but not to its sender. A frame without a
-- whole header is for none
abbrev pub receivers_of : List Mac → Sent → List Bool
receivers_of macs x =
    slice_set (map (λ (mac : Mac). is_for_client mac (frame_of x.1)) macs) x.0 false

-- it goes to the port at a place
abbrev pub goes_to : List Mac → ℕ → Sent → Bool
goes_to macs port x = slice_index_or (receivers_of macs x) port false

-- it goes to no port
abbrev pub is_lost : List Mac → Sent → Bool
is_lost macs x = how_many (receivers_of macs x) == 0

-- what goes to the port at a place, in the order in which it was taken
abbrev pub sent_to : List Mac → ℕ → List Sent → List Sent
sent_to macs port sent = filter (goes_to macs port) sent

-- the frames that go to the port at a place
abbrev pub frames_to : List Mac → ℕ → List Sent → List (List ℕ)
frames_to macs port sent = map (λ (x : Sent). frame_of x.1) (sent_to macs port sent)

-- the entries that came from the port at a place
abbrev pub entries_from : ℕ → List Sent → List Cargo
entries_from port sent = map (λ (x : Sent). x.1) (filter (λ (x : Sent). x.0 == port) sent)

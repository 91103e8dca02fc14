-- What each port of a switch must get of what each port sends.
use Rattle.std.specs.Prelude.{◌≡◌, ◌+◌, ◌<◌, ◌==◌, ℕ, if◌then◌else◌, Some, List, [], ◌∷◌, length}
use Rattle.std.specs.Prelude.{map, slice_get}
use Rattle.cargo_core.specs.Lists.{IsPrefix}
use Rattle.frame_core.specs.declared.mac.Mac.{Mac}
use Rattle.wire_core.specs.Deeds.{Cargo}
use Rattle.buffer_kit.specs.Entries.{frame_of}
use Rattle.class_expect.specs.NetExpect.Expecting.{frames_for}
use Rattle.net_switch.specs.SwitchDesk.Frames.{Sent, entries_from}

-- of the frames that one port sends, those for the port of an address: whose destination is that
-- address or all stations; of its own a port gets none
abbrev pub to_from : (sender receiver : ℕ) → Mac → List (List ℕ) → List (List ℕ)
to_from sender receiver mac frames = if sender == receiver then [] else frames_for mac frames

-- the same of what each port sends, the first of which has this number
abbrev pub all_to : (sender receiver : ℕ) → Mac → List (List (List ℕ)) → List (List (List ℕ))
all_to sender receiver mac [] = []
all_to sender receiver mac (frames ∷ sends) =
    to_from sender receiver mac frames ∷ all_to (sender + 1) receiver mac sends

-- what was taken are entries of these ports, and of each port the first that it sends
pub record AreFirst (sends : List (List (List ℕ))) (sent : List Sent) : Type 0 where
  pub ports : (k : ℕ) (x : Sent) → slice_get sent k ≡ Some x → x.0 < length sends
  pub firsts : (port : ℕ) (frames : List (List ℕ)) → slice_get sends port ≡ Some frames
      → IsPrefix (map (λ (c : Cargo). frame_of c) (entries_from port sent)) frames

-- and of each port all that it sends
pub record AreAll (sends : List (List (List ℕ))) (sent : List Sent) : Type 0 where
  pub first : AreFirst sends sent
  pub all : (port : ℕ) (frames : List (List ℕ)) → slice_get sends port ≡ Some frames
      → map (λ (c : Cargo). frame_of c) (entries_from port sent) ≡ frames

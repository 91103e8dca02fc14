-- Which frames a network client must get, and which it sends.
use Rattle.std.specs.Prelude.{ℕ, ◌&&◌, nat_le, Bool, List, [], length, map}
use Rattle.std.specs.List.{filter}
use Rattle.frame_core.specs.declared.mac.Mac.{Mac}
use Rattle.frame_core.specs.Frames.{is_frame_for, turned_round}

-- a frame is for the client of an address: it has a whole header, and goes to that address or to
-- all stations
abbrev pub is_for_client : Mac → List ℕ → Bool
is_for_client mac frame = nat_le 14 (length frame) && is_frame_for frame mac

-- of some frames, those that are for the client of an address, in their order
abbrev pub frames_for : Mac → List (List ℕ) → List (List ℕ)
frames_for mac frames = filter (is_for_client mac) frames

-- the frames by which the client of an address answers those that it must get: each goes back to
-- the station from which it came
abbrev pub answers_for : Mac → List (List ℕ) → List (List ℕ)
answers_for mac frames = map (λ frame. turned_round frame mac) (frames_for mac frames)

-- what a client does with its frames: it sends nothing, the frames of its script, or an answer to
-- each frame
pub data Program : Type 0 where
  Sink : Program
  Source : List (List ℕ) → Program
  Echo : Program

-- the frames that the client of an address sends, of those that the device receives
abbrev pub sends_of : Program → Mac → List (List ℕ) → List (List ℕ)
sends_of Sink mac frames = []
sends_of (Source script) mac frames = script
sends_of Echo mac frames = answers_for mac frames

-- What the functions on a frame's header mean, as functions of lists of bytes.
use Rattle.std.specs.Prelude.{ℕ, ◌&&◌, ◌||◌, nat_eq, nat_le, Bool, List, [], ◌∷◌, ◌++◌, length}
use Rattle.std.specs.Prelude.{take, drop}
use Rattle.std.specs.List.{starts_with}
use Rattle.frame_core.specs.declared.mac.Mac.{Mac}

-- whether these bytes can be a frame, where one has at most so many
abbrev pub is_frame_of : List ℕ → (most : ℕ) → Bool
is_frame_of bytes most = nat_le 14 (length bytes) && nat_le (length bytes) most

-- the address that every station listens to
abbrev pub broadcast : List ℕ
broadcast = 255 ∷ 255 ∷ 255 ∷ 255 ∷ 255 ∷ 255 ∷ []

-- whether a frame is for the station of an address
abbrev pub is_frame_for : List ℕ → Mac → Bool
is_frame_for frame own = starts_with nat_eq frame own.0 || starts_with nat_eq frame broadcast

-- the frame sent back: the old source is its destination, and the station's own address its source
abbrev pub turned_round : List ℕ → Mac → List ℕ
turned_round frame own = take 6 (drop 6 frame) ++ own.0 ++ drop 12 frame

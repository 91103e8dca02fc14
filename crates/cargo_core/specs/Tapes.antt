-- What is recorded, and for how much more the memory is taken.
use Rattle.std.specs.Prelude.{ℕ, List}

-- the bytes that were recorded, and for how many more the memory is taken
pub record Taped : Type 0 where
  pub shown : List ℕ
  pub spare : ℕ

-- the frames that were recorded, and the memory that is taken for the next one: whether the list
-- has a place for it, and how many bytes it may have
pub record FramesTaped : Type 0 where
  pub shown : List (List ℕ)
  pub places : ℕ
  pub bytes : ℕ

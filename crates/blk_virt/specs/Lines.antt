-- Places in a line.
use Rattle.std.specs.Prelude.{ℕ, List}

-- who is in the line, the first of them first, and for how many the memory is taken
pub record Lined : Type 0 where
  pub shown : List ℕ
  pub room : ℕ

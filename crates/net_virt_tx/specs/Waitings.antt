-- Entries in their order, with the memory for them.
use Rattle.std.specs.Prelude.{ℕ, List}
use Rattle.wire_core.specs.Deeds.{Cargo}

-- the entries that wait, the first of them first, and for how many the memory is taken
pub record Waits : Type 0 where
  pub shown : List Cargo
  pub places : ℕ

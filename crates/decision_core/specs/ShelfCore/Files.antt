-- A shelf of files and standard output: what is known of them.
use Rattle.std.specs.Prelude.{ℕ, Bool}

-- a shelf of files: whether one is open, how many calls failed, and whether the last did
pub record Filed : Type 0 where
  pub is_open : Bool
  pub faults : ℕ
  pub failed : Bool

-- standard output: how many calls failed, and whether the last did
pub record Printed : Type 0 where
  pub faults : ℕ
  pub failed : Bool

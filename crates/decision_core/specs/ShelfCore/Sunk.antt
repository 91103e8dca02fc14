-- A sink in memory, and how much a call of it takes.
use Rattle.std.specs.Prelude.{ℕ, ◌-◌, min, List, length}
use Rattle.decision_core.specs.ShelfCore.FaultPlans.{Planned}

-- a sink in memory: the bytes that were written, for how many there is room, and what the sink was
-- told
pub record Sunk : Type 0 where
  pub written : List ℕ
  pub room : ℕ
  pub plan : Planned

-- how many of so many bytes a call takes: as many as there is room for, but no more than a piece
abbrev pub bytes_taken : Sunk → ℕ → ℕ
bytes_taken s n = min (min n (s.room - length s.written)) s.plan.piece

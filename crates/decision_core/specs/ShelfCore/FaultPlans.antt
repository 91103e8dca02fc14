-- What a shelf or a sink in memory was told: which calls fail, and how much one moves at most.
use Rattle.std.specs.Prelude.{◌≡◌, ℕ, ◌-◌, ◌^◌, ◌==◌, Bool, false, List, []}
use Rattle.std.specs.List.{list_any}
use Rattle.decision_core.specs.ShelfCore.Outside.{one_more}

-- the calls so far, those that fail, how many bytes a call moves at most, the faults, and whether
-- the last call failed
pub record Planned : Type 0 where
  pub calls : ℕ
  pub failing : List ℕ
  pub piece : ℕ
  pub faults : ℕ
  pub failed : Bool

-- no call was made, none fails, and a call moves as many bytes as it can
abbrev pub unplanned : Planned
unplanned = record {
  calls = 0;
  failing = [];
  piece = 2 ^ 64 - 1;
  faults = 0;
  failed = false;
}

-- whether the next call is one of those that fail
abbrev pub is_due : Planned → Bool
is_due p = list_any (λ n. n == p.calls) p.failing

-- a call was counted, and perhaps a fault: what was told stays
pub record Counted (old new : Planned) : Type 0 where
  pub calls : new.calls ≡ one_more old.calls
  pub failing : new.failing ≡ old.failing
  pub piece : new.piece ≡ old.piece

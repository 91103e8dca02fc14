-- What a caller sees of an end, of a ring, and of a ring that came to its end.
use Rattle.std.specs.Prelude.{ℕ, Bool, List}
use Rattle.atomic_table.specs.Seated.{TableId}
use Rattle.cargo_core.specs.declared.item.QueueKind.{QueueKind}
use Rattle.wire_core.specs.declared.names.BellState.{BellState}
use Rattle.wire_core.specs.Deeds.{Cargo}
use Rattle.spsc_queue.specs.declared.view.Half.{Half}

-- an end of a ring, and what it knows
pub record EndIs : Type 0 where
  pub ring : TableId
  pub knows : Half

-- which ring, with its capacity as the number of its slots, what it is for, and whether it is wild,
-- so that either end may store what it likes in its words
pub record RingIs : Type 0 where
  pub id : TableId
  pub kind : QueueKind
  pub wild : Bool

-- what is kept of a ring that came to its end: its capacity, what its two ends knew last, what was
-- sent and not taken, and its two bells
pub record EndedIs : Type 0 where
  pub capacity : ℕ
  pub producer : Half
  pub consumer : Half
  pub left : List Cargo
  pub forward : BellState
  pub backward : BellState

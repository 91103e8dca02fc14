-- What queues can be made of: the sizes that a lock-free ring with indices of 16 bits takes too, so
-- that every wiring of queues has one condition.
use Rattle.std.specs.Prelude.{◌≤◌, List, length, All}
use Rattle.cargo_core.specs.Capacities.{IsCapacity}
use Rattle.wire_core.specs.declared.names.QueueRow.{QueueRow}

-- each queue has a number of 16 bits, and a capacity
pub record AreSized (rows : List QueueRow) : Type 0 where
  pub few : length rows ≤ 65536
  pub capacities : All (λ row. IsCapacity row.capacity) rows

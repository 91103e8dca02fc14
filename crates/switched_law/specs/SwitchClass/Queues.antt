-- The queues between the ports of a switch and the switch.
use Rattle.std.specs.Prelude.{◌≡◌, ◌+◌, ◌*◌, ◌<◌, ◌++◌, ℕ, Some, List, [], ◌∷◌, length, slice_get}
use Rattle.cargo_core.specs.declared.item.QueueKind.TheVariants as Kind
use Rattle.wire_core.specs.declared.names.QueueRow.{QueueRow}
use Rattle.switched_law.specs.declared.switch_class.queues.TheConstants.{CAPACITY}

-- a Net queue from one actor to another
pub record IsQueue (producer consumer : ℕ) (row : QueueRow) : Type 0 where
  pub kind : row.kind ≡ Kind.Net
  pub capacity_is : row.capacity ≡ CAPACITY
  pub producer_is : row.producer.0 ≡ producer
  pub consumer_is : row.consumer.0 ≡ consumer

-- the four queues of a port were added: for sending those of frames and of free buffers, and then
-- those for receiving
pub record Added (port switch : ℕ) (old new : List QueueRow) : Type 0 where
  pub tx_active : QueueRow
  pub tx_free : QueueRow
  pub rx_active : QueueRow
  pub rx_free : QueueRow
  pub sends : IsQueue port switch tx_active
  pub comes_back : IsQueue switch port tx_free
  pub comes : IsQueue switch port rx_active
  pub gives : IsQueue port switch rx_free
  pub new_is : new ≡ old ++ tx_active ∷ tx_free ∷ rx_active ∷ rx_free ∷ []

-- the queue at a place goes from one actor to another
pub record GoesAt (rows : List QueueRow) (place producer consumer : ℕ) : Type 0 where
  pub row : QueueRow
  pub at : slice_get rows place ≡ Some row
  pub is : IsQueue producer consumer row

-- of each port below a number, its queues to and from the switch
pub record HaveQueues (ports switch : ℕ) (rows : List QueueRow) : Type 0 where
  pub tx_active : (c : ℕ) → c < ports → GoesAt rows (4 * c) c switch
  pub tx_free : (c : ℕ) → c < ports → GoesAt rows (4 * c + 1) switch c
  pub rx_active : (c : ℕ) → c < ports → GoesAt rows (4 * c + 2) switch c
  pub rx_free : (c : ℕ) → c < ports → GoesAt rows (4 * c + 3) c switch

-- the queues of so many ports, whose clients are the first actors; behind them stands the switch
pub record AreQueues (ports : ℕ) (rows : List QueueRow) : Type 0 where
  pub many : length rows ≡ 4 * ports
  pub of_ports : HaveQueues ports ports rows

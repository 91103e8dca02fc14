-- The queues of a bus.
use Rattle.std.specs.Prelude.{◌≡◌, ◌+◌, ◌*◌, ◌<◌, ◌++◌, ℕ, Some, List, [], ◌∷◌, length, slice_get}
use Rattle.cargo_core.specs.declared.item.QueueKind.TheVariants as Kind
use Rattle.wire_core.specs.declared.names.QueueRow.{QueueRow}
use Rattle.bus_law.specs.declared.i2c_actors.queues.TheConstants.{CLIENT_CAPACITY, SHARED_CAPACITY}

-- a Net queue from one actor to another, of this capacity
pub record IsQueue (producer consumer capacity : ℕ) (row : QueueRow) : Type 0 where
  pub kind : row.kind ≡ Kind.Net
  pub capacity_is : row.capacity ≡ capacity
  pub producer_is : row.producer.0 ≡ producer
  pub consumer_is : row.consumer.0 ≡ consumer

-- the queues both ways between two actors were added
pub record Added (first second capacity : ℕ) (old new : List QueueRow) : Type 0 where
  pub there : QueueRow
  pub back : QueueRow
  pub goes : IsQueue first second capacity there
  pub comes : IsQueue second first capacity back
  pub new_is : new ≡ old ++ there ∷ back ∷ []

-- the queue at a place goes from one actor to another
pub record GoesAt (rows : List QueueRow) (place producer consumer capacity : ℕ) : Type 0 where
  pub row : QueueRow
  pub at : slice_get rows place ≡ Some row
  pub is : IsQueue producer consumer capacity row

-- of each client below a number, its queues to and from the virtualiser
pub record HaveQueues (clients virt : ℕ) (rows : List QueueRow) : Type 0 where
  pub requests : (c : ℕ) → c < clients → GoesAt rows (2 * c) c virt CLIENT_CAPACITY
  pub replies : (c : ℕ) → c < clients → GoesAt rows (2 * c + 1) virt c CLIENT_CAPACITY

-- the queues of a bus of so many clients, which are the first actors; behind them stand the
-- virtualiser, the driver and the bus
pub record AreQueues (clients : ℕ) (rows : List QueueRow) : Type 0 where
  pub many : length rows ≡ 2 * clients + 4
  pub of_clients : HaveQueues clients clients rows
  pub to_driver : GoesAt rows (2 * clients) clients (clients + 1) SHARED_CAPACITY
  pub from_driver : GoesAt rows (2 * clients + 1) (clients + 1) clients SHARED_CAPACITY
  pub to_bus : GoesAt rows (2 * clients + 2) (clients + 1) (clients + 2) SHARED_CAPACITY
  pub from_bus : GoesAt rows (2 * clients + 3) (clients + 2) (clients + 1) SHARED_CAPACITY

-- What the laws say of a layout: its queues and pools lie in their regions, apart from each other,
-- and its actors are those that the plan names.
use Rattle.std.specs.Prelude.{◌≡◌, ◌≢◌, ℕ, ◌+◌, ◌*◌, ◌<◌, ◌≤◌, List, ◌++◌, length, map, Option}
use Rattle.std.specs.Prelude.{Some, slice_get, slice_index, IsSomeAnd}
use Rattle.std.specs.Option.{option_map}
use Rattle.wire_core.specs.declared.names.QueueRow.{QueueRow}
use Rattle.wire_core.specs.declared.names.PoolRow.{PoolRow}
use Rattle.sdf_plan.specs.declared.plan.Plan.{Plan}
use Rattle.sdf_plan.specs.declared.plan.Net.{Net}
use Rattle.sdf_check.specs.Names.{StandsBefore}
use Rattle.sdf_check.specs.Rules.{IsMultiple, Range}
use Rattle.cargo_core.specs.Capacities.{IsCapacity}
use Rattle.sdf_check.specs.ClassRules.{IsBufferCount}
use Rattle.region_layout.specs.Bases.{bases_of}
use Rattle.sdf_plan.specs.ClassTable.Sizes.{entry_size}
use Rattle.region_layout.specs.Rows.{acting_count, actors_of, actor_named, queues_of, pools_of}

-- a queue begins at a multiple of 64, and its header and its entries end inside the region
abbrev pub LiesIn : Plan → QueueRow → ℕ → Type 0
LiesIn plan row r =
    IsSomeAnd (slice_get plan.memory_region r) (λ region. IsMultiple row.offset 64
    × (row.offset + (64 + entry_size row.kind * row.capacity) ≤ region.size))

-- what holds of a queue
pub record IsSoundQueue (plan : Plan) (row : QueueRow) : Type 0 where
  pub capacity : IsCapacity row.capacity
  pub lies : (r : ℕ) → row.region ≡ Some r → LiesIn plan row r

-- what holds of a pool
pub record IsSoundPool (plan : Plan) (row : PoolRow) : Type 0 where
  pub buffers : IsBufferCount row.buffers
  pub base : slice_get (bases_of plan.memory_region) row.region ≡ Some row.base
  pub lies : IsSomeAnd (slice_get plan.memory_region row.region)
      (λ region. row.size * row.buffers ≤ region.size)

-- a name is that of the actor of its number, which is none of the devices
abbrev pub IsActor : Plan → List ℕ → Type 0
IsActor plan name =
    (slice_get (actors_of plan) (actor_named plan name).0 ≡ Some name)
    × ((actor_named plan name).0 < acting_count plan)

-- the two owners of a queue are among the actors, and differ
pub record IsOwned (plan : Plan) (row : QueueRow) : Type 0 where
  pub producer : row.producer.0 < length (actors_of plan)
  pub consumer : row.consumer.0 < length (actors_of plan)
  pub differ : row.producer.0 ≢ row.consumer.0

-- a queue, by its number, can hold all the buffers of a pool, by its number
abbrev pub HoldsPool : Plan → ℕ → ℕ → Type 0
HoldsPool plan queue pool =
    (row : QueueRow) × (buffers : PoolRow) × (slice_get (queues_of plan) queue ≡ Some row)
    × (slice_get (pools_of plan) pool ≡ Some buffers) × (buffers.buffers ≤ row.capacity)

-- the queues of the network class that can hold all the buffers that may come to stand there: those
-- on which the device's buffers go back to the driver and to the virtualiser, and those on which a
-- client's go back to its copier and to the client
pub record HasRooms (plan : Plan) (net : Net) : Type 0 where
  pub free : HoldsPool plan 5 0
  pub lease_free : (c : ℕ) → c < length net.client → HoldsPool plan (9 + 6 * c) 0
  pub rx_free : (c : ℕ) → c < length net.client → HoldsPool plan (11 + 6 * c) (1 + 2 * c)
  pub tx_free : (c : ℕ) → c < length net.client → HoldsPool plan (13 + 6 * c) (2 + 2 * c)

-- no name stands twice in a list
abbrev pub NoNameTwice : List (List ℕ) → Type 0
NoNameTwice names = (at : ℕ) (name : List ℕ) → slice_get names at ≡ Some name
    → StandsBefore name names at → ⊥

-- the physical addresses that a queue takes, where it stands in a region
unfoldable pub queue_range : Plan → QueueRow → Option Range
queue_range plan row =
    option_map (λ r. (
      slice_index (bases_of plan.memory_region) r + row.offset,
      slice_index (bases_of plan.memory_region) r + row.offset
          + (64 + entry_size row.kind * row.capacity),
    )) row.region

-- the physical addresses that a pool takes
unfoldable pub pool_range : PoolRow → Option Range
pool_range row = Some (row.base, row.base + row.size * row.buffers)

-- the ranges of all queues and all pools
abbrev pub ranges_of : Plan → List (Option Range)
ranges_of plan = map (queue_range plan) (queues_of plan) ++ map pool_range (pools_of plan)

-- Who is who in the classes of a plan, by names, and by the rows of its queues.
use Rattle.std.specs.Prelude.{◌≡◌, ◌+◌, ◌*◌, ℕ, Some, List, length, map, slice_get}
use Rattle.std.specs.Option.{option_map_or}
use Rattle.wire_core.specs.declared.names.QueueRow.{QueueRow}
use Rattle.sdf_plan.specs.declared.plan.Plan.{Plan}
use Rattle.sdf_plan.specs.declared.plan.Net.{Net}
use Rattle.sdf_plan.specs.declared.plan.NetClient.{NetClient}
use Rattle.sdf_plan.specs.declared.plan.Serial.{Serial}
use Rattle.sdf_plan.specs.declared.plan.SerialClient.{SerialClient}
use Rattle.sdf_plan.specs.declared.plan.Blk.{Blk}
use Rattle.sdf_plan.specs.declared.plan.BlkClient.{BlkClient}
use Rattle.region_layout.specs.Rows.{actor_named, eth_number, uart_number, disk_number}
use Rattle.system_core.specs.Shows.{Crew}
use Rattle.system_core.specs.States.{crew_of, nobody}

-- the number of the domain of a name
abbrev pub number_named : Plan → List ℕ → ℕ
number_named plan name = (actor_named plan name).0

-- the device and the clients of the network class, where a plan has it
abbrev pub net_crew : Plan → Crew
net_crew plan = option_map_or (λ (net : Net). crew_of (Some (eth_number plan).0)
    (map (λ (c : NetClient). number_named plan c.pd) net.client)) plan.net nobody

-- those of the serial class
abbrev pub serial_crew : Plan → Crew
serial_crew plan = option_map_or (λ (serial : Serial). crew_of (Some (uart_number plan).0)
    (map (λ (c : SerialClient). number_named plan c.pd) serial.client)) plan.serial nobody

-- those of the block class
abbrev pub blk_crew : Plan → Crew
blk_crew plan = option_map_or (λ (blk : Blk). crew_of (Some (disk_number plan).0)
    (map (λ (c : BlkClient). number_named plan c.pd) blk.client)) plan.blk nobody

-- the actor that takes from a queue
abbrev pub IsTaker : List QueueRow → (queue actor : ℕ) → Type 0
IsTaker rows queue actor = (row : QueueRow) × (slice_get rows queue ≡ Some row)
    × (row.consumer.0 ≡ actor)

-- the actors that take from so many queues, which stand so far apart from a number on
pub record AreTakers (rows : List QueueRow) (first apart count : ℕ) (numbers : List ℕ)
    : Type 0 where
  pub many : length numbers ≡ count
  pub each : (c k : ℕ) → slice_get numbers c ≡ Some k → IsTaker rows (first + apart * c) k

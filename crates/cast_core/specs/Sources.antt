-- What a plan, the rows of its pools and a trace give each client of a class, by its number, and
-- where the classes begin.
use Rattle.std.specs.Prelude.{◌+◌, ◌*◌, ℕ, zero, suc, Bool, true, false, if◌then◌else◌, List, []}
use Rattle.std.specs.Prelude.{◌∷◌, length, map, codes, slice_get, unwrap_or}
use Rattle.std.specs.Option.{option_map_or}
use Rattle.frame_core.specs.declared.mac.Mac.{Mac}
use Rattle.frame_core.specs.Macs.{mac_of}
use Rattle.wire_core.specs.declared.names.PoolRow.{PoolRow}
use Rattle.sdf_plan.specs.declared.plan.Plan.{Plan}
use Rattle.sdf_plan.specs.declared.plan.Net.{Net}
use Rattle.sdf_plan.specs.declared.plan.NetClient.{NetClient}
use Rattle.sdf_plan.specs.declared.plan.Serial.{Serial}
use Rattle.sdf_plan.specs.declared.plan.SerialClient.{SerialClient}
use Rattle.sdf_plan.specs.declared.plan.Policy.{Policy}
use Rattle.sdf_plan.specs.declared.plan.Policy.TheVariants as To
use Rattle.trace_text.specs.declared.trace.Trace.{Trace}
use Rattle.trace_text.specs.Events.{net_clients, serial_clients, is_source, runs}
use Rattle.class_expect.specs.NetExpect.Expecting.{Program}
use Rattle.client_programs.specs.Net.Programs.{program_with}
use Rattle.client_programs.specs.declared.net.program.NetProgram.{NetProgram}
use Rattle.client_programs.specs.declared.net.program.NetProgram.TheVariants as Programs
use Rattle.net_law.specs.Owners.Names.{ClientPools}
use Rattle.owner_law.specs.Pools.Places.{PoolAt}

-- so many queues, every second one from a number on
abbrev pub every_second : ℕ → ℕ → List ℕ
every_second first zero = []
every_second first (suc count) = first ∷ every_second (first + 2) count

-- the number of the first queue of the serial class: the network's stand before it
abbrev pub first_serial : Plan → ℕ
first_serial plan = option_map_or (λ (net : Net). 8 + 6 * length net.client) plan.net 0

-- the number of the first queue of the block class: those of the other classes stand before it
abbrev pub first_blk : Plan → ℕ
first_blk plan = first_serial plan
    + option_map_or (λ (serial : Serial). 4 + 2 * length serial.client) plan.serial 0

-- the number of the block virtualiser's pool: those of the network stand before it
abbrev pub first_blk_pool : Plan → ℕ
first_blk_pool plan = option_map_or (λ (net : Net). 1 + 2 * length net.client) plan.net 0

-- by this policy what comes for a client is dropped where there is no room for it
abbrev pub is_dropping : Policy → Bool
is_dropping To.Hold = false
is_dropping To.Drop = true

-- for each client of the network class whether frames for it may be dropped
abbrev pub net_drops : Plan → List Bool
net_drops plan = map (λ (client : NetClient). is_dropping client.policy) (net_clients plan)

-- whether these clients' bytes may be dropped
abbrev pub drops_of : List SerialClient → List Bool
drops_of clients = map (λ (client : SerialClient). is_dropping client.policy) clients

-- for each client of the serial class whether its bytes may be dropped
abbrev pub serial_drops : Plan → List Bool
serial_drops plan = drops_of (serial_clients plan)

-- the pool of a number, as its row tells it
abbrev pub pool_at : List PoolRow → ℕ → PoolAt
pool_at rows n = record {
  number = n;
  base = option_map_or (λ (row : PoolRow). row.base) (slice_get rows n) 0;
  buffers = option_map_or (λ (row : PoolRow). row.buffers) (slice_get rows n) 0;
  size = option_map_or (λ (row : PoolRow). row.size) (slice_get rows n) 0;
}

-- the pools of the network client of a number: they stand behind the device's, two by two
abbrev pub pools_at : List PoolRow → ℕ → ClientPools
pools_at rows c = record { rx = pool_at rows (1 + 2 * c); tx = pool_at rows (2 + 2 * c) }

-- the address that no client of a valid plan has
abbrev pub no_mac : Mac
no_mac = record { 0 = 0 ∷ 0 ∷ 0 ∷ 0 ∷ 0 ∷ 0 ∷ [] }

-- the address of the network client of a number
abbrev pub client_mac : Plan → ℕ → Mac
client_mac plan c =
    option_map_or (λ (client : NetClient). unwrap_or (mac_of client.mac) no_mac)
    (slice_get (net_clients plan) c) no_mac

-- whether the network client of a number answers the frames that it gets
abbrev pub is_echo : Plan → ℕ → Bool
is_echo plan c =
    option_map_or (λ (client : NetClient).
    runs plan.protection_domain client.pd (codes "net_echo"))
    (slice_get (net_clients plan) c) false

-- the kind of program that the network client of a number runs
abbrev pub client_kind : Plan → ℕ → NetProgram
client_kind plan c = if is_source plan c then Programs.Source
    else if is_echo plan c then Programs.Echo else Programs.Sink

-- its program, with the frames that a trace has it send
abbrev pub client_program : Plan → Trace → ℕ → Program
client_program plan trace c =
    program_with (client_kind plan c) (unwrap_or (slice_get trace.sends c) [])

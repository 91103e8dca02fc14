-- The actors of a switch's system: of each port its client, and behind them the switch.
use Rattle.std.specs.Prelude.{◌≡◌, ◌+◌, ◌*◌, ◌<◌, ◌≤◌, ◌^◌, ℕ, Some, List, All, length, slice_get}
use Rattle.frame_core.specs.declared.mac.Mac.{Mac}
use Rattle.wire_core.specs.declared.names.QueueId.{QueueId}
use Rattle.line_text.specs.Lists.{per_client}
use Rattle.owner_law.specs.Pools.Places.{PoolAt}
use Rattle.line_text.specs.declared.ports_text.ports.Ports.{Ports}
use Rattle.client_programs.specs.declared.net.program.ClientProgram.{ClientProgram}
use Rattle.client_programs.specs.declared.net.program.NetProgram.TheVariants as Program
use Rattle.switched_law.specs.declared.switch_class.member.Member.{Member}
use Rattle.switched_law.specs.SwitchClass.Members.{Made, Runs, Switches, made_of}
use Rattle.switched_law.specs.declared.switch_class.actors.TheConstants.{BUFFERS, SIZE}

-- ports of which actors can be made: there are 1 to 8; each has its frames, each of
-- which has at most 65,535 bytes
pub record CanBeMade (ports : Ports) : Type 0 where
  pub some : 0 < length ports.macs
  pub few : length ports.macs ≤ 8
  pub lists : length ports.sends ≡ length ports.macs
  pub short : (port : ℕ) (frames : List (List ℕ)) → slice_get ports.sends port ≡ Some frames
      → All (λ frame. length frame < 2 ^ 16) frames

-- a pool of a client, by its number
abbrev pub pool_at : ℕ → PoolAt
pool_at number = record { number = number; base = 0; buffers = BUFFERS; size = SIZE }

-- the pool in which the client of a port receives
abbrev pub rx_pool : ℕ → PoolAt
rx_pool port = pool_at (2 * port)

-- the pool in which it sends
abbrev pub tx_pool : ℕ → PoolAt
tx_pool port = pool_at (2 * port + 1)

-- its program: it sends these frames in their order, and records what comes
abbrev pub program_of : Mac → (frames : List (List ℕ)) → ClientProgram
program_of mac frames = record { kind = Program.Source; mac = mac; script = frames }

-- what the client of a port is made of
abbrev pub client_made : (port : ℕ) → Mac → (frames : List (List ℕ)) → Made
client_made port mac frames = Runs (4 * port + 2) (4 * port + 3) (4 * port) (4 * port + 1)
    (program_of mac frames) (rx_pool port) (tx_pool port)

-- of each port the queue at a place among its four
abbrev pub queues_at : (ports place : ℕ) → List QueueId
queues_at ports place = per_client ports (λ port. record { 0 = 4 * port + place })

-- what the switch is made of
abbrev pub switch_made : List Mac → Made
switch_made macs = Switches (queues_at (length macs) 0) (queues_at (length macs) 1)
    (queues_at (length macs) 3) (queues_at (length macs) 2) macs

-- the actors are the clients of these ports, in their order, and then the switch
pub record AreMade (ports : Ports) (start : List Member) : Type 0 where
  pub many : length start ≡ length ports.macs + 1
  pub clients : (port : ℕ) (mac : Mac) (frames : List (List ℕ)) (x : Member)
      → slice_get ports.macs port ≡ Some mac → slice_get ports.sends port ≡ Some frames
      → slice_get start port ≡ Some x → made_of x ≡ client_made port mac frames
  pub switch : (x : Member) → slice_get start (length ports.macs) ≡ Some x
      → made_of x ≡ switch_made ports.macs

-- The actors of a switch's system at one moment: a client at each port, the switch, and what passed
-- between them.
use Rattle.std.specs.Prelude.{◌≡◌, ◌+◌, ◌*◌, ◌<◌, ◌≤◌, ◌^◌, ℕ, Some, List, length, slice_get}
use Rattle.std.specs.Prelude.{sum_by}
use Rattle.frame_core.specs.declared.mac.Mac.{Mac}
use Rattle.line_text.specs.declared.ports_text.ports.Ports.{Ports}
use Rattle.wire_core.specs.declared.names.QueueId.{QueueId}
use Rattle.wire_core.specs.Ends.{Role, End}
use Rattle.wire_core.specs.Lists.{Passed}
use Rattle.owner_law.specs.Pools.Places.{PoolAt}
use Rattle.net_law.specs.Receiving.{HandsOver}
use Rattle.net_law.specs.Parts.Playing.{stock_pool}
use Rattle.client_programs.specs.declared.net.NetClient.{NetClient}
use Rattle.client_programs.specs.declared.net.program.NetProgram.TheVariants as Kind
use Rattle.client_programs.specs.Net.Clients.{FitsClient, ClientStandsFor, rx_active, rx_free}
use Rattle.client_programs.specs.Net.Clients.{tx_active, tx_free}
use Rattle.net_switch.specs.declared.switch.NetSwitch.{NetSwitch}
use Rattle.net_switch.specs.Ends.{come_queues, back_queues, room_queues, copy_queues}
use Rattle.net_switch.specs.Switching.{FitsSwitch, SwitchStandsFor}

-- how many buffers each pool of a client has, and how many entries each queue holds
abbrev pub buffers : ℕ
buffers = 4

-- how many bytes each buffer has
abbrev pub buffer_size : ℕ
buffer_size = 2048

-- ports that can be played: each sends some frames, each of which has room in a buffer, and all
-- frames can be counted
pub record ArePlayable (ports : Ports) : Type 0 where
  pub as_many : length ports.sends ≡ length ports.macs
  pub short : (port : ℕ) (frames : List (List ℕ)) → slice_get ports.sends port ≡ Some frames
      → (k : ℕ) (frame : List ℕ) → slice_get frames k ≡ Some frame → length frame ≤ buffer_size
  pub few : sum_by length ports.sends < 2 ^ 64

-- a pool of a client, by its number: its buffers stand at offsets
abbrev pub pool_at : ℕ → PoolAt
pool_at number = record { number = number; base = 0; buffers = buffers; size = buffer_size }

-- a client has the four queues of a port: of its frames, of its buffers that come back, of the
-- frames that come to it, and of the buffers that it gives. It has the port's address, sends the
-- port's frames, and has a pool for receiving and one for sending
pub record IsClientOf (ports : Ports) (port : ℕ) (c : NetClient) : Type 0 where
  pub mac : Mac
  pub frames : List (List ℕ)
  pub address : slice_get ports.macs port ≡ Some mac
  pub sends : slice_get ports.sends port ≡ Some frames
  pub program : c.program ≡ record { kind = Kind.Source; mac = mac; script = frames }
  pub tx_active_is : tx_active c ≡ 4 * port
  pub tx_free_is : tx_free c ≡ 4 * port + 1
  pub rx_active_is : rx_active c ≡ 4 * port + 2
  pub rx_free_is : rx_free c ≡ 4 * port + 3
  pub rx_pool : stock_pool c.stock ≡ pool_at (2 * port)
  pub tx_pool : stock_pool c.outbox.stock ≡ pool_at (2 * port + 1)

-- of each of so many ports, the queue at its place
pub record AreAt (ports : ℕ) (at : ℕ → ℕ) (queues : List QueueId) : Type 0 where
  pub many : length queues ≡ ports
  pub each : (port : ℕ) → port < ports → slice_get queues port ≡ Some (record { 0 = at port })

-- a switch has the queues of ports with these addresses
pub record IsSwitchOf (macs : List Mac) (v : NetSwitch) : Type 0 where
  pub macs_are : v.desk.macs.items ≡ macs
  pub come : AreAt (length macs) (λ port. 4 * port) (come_queues v.ends)
  pub back : AreAt (length macs) (λ port. 4 * port + 1) (back_queues v.ends)
  pub copy : AreAt (length macs) (λ port. 4 * port + 2) (copy_queues v.ends)
  pub room : AreAt (length macs) (λ port. 4 * port + 3) (room_queues v.ends)

-- a client is at a port, fits its ends as they are, and stands for what passed
pub record HasClient (ports : Ports) (port : ℕ) (ends : Role → ℕ → End) (passed : Passed) : Type 0
  where
    pub client : NetClient
    pub is : IsClientOf ports port client
    pub fits : FitsClient ends client
    pub stands : ClientStandsFor client passed

-- the system at one moment: each queue hands over what was put, in its order, and the switch and
-- the client of each port fit their ends and stand for what passed
pub record IsSwitched (ports : Ports) (ends : Role → ℕ → End) (v : NetSwitch) (passed : Passed) :
    Type 0 where
  pub playable : ArePlayable ports
  pub hands_over : HandsOver passed
  pub switch : IsSwitchOf ports.macs v
  pub fits : FitsSwitch ends v
  pub stands : SwitchStandsFor v passed
  pub clients : (port : ℕ) → port < length ports.macs → HasClient ports port ends passed

-- The actors of a switch's system in their start state, for the contracts of this crate alone.
use Rattle.std.specs.Prelude.{◌≡◌, ◌+◌, ◌*◌, ◌<◌, ℕ, Some, List, [], ◌∷◌, length, slice_get}
use Rattle.std.specs.Prelude.{replicate}
use Rattle.cargo_core.specs.Pages.{Paged}
use Rattle.frame_core.specs.declared.mac.Mac.{Mac}
use Rattle.wire_core.specs.declared.names.QueueId.{QueueId}
use Rattle.wire_core.specs.Lists.{nothing_passed}
use Rattle.buffer_kit.specs.Pools.{ArePool}
use Rattle.line_text.specs.declared.ports_text.ports.Ports.{Ports}
use Rattle.client_programs.specs.declared.net.NetClient.{NetClient}
use Rattle.client_programs.specs.declared.net.program.NetProgram.TheVariants as Program
use Rattle.client_programs.specs.Net.Clients.{IsNewClient, ClientStandsFor}
use Rattle.net_switch.specs.declared.switch.NetSwitch.{NetSwitch}
use Rattle.net_switch.specs.declared.switch.PortEnds.{PortEnds}
use Rattle.net_switch.specs.Switching.{IsNewSwitch, SwitchStandsFor}
use Rattle.switched_law.specs.declared.switch_class.member.Member.{Member}
use Rattle.switched_law.specs.declared.switch_class.member.Member.TheVariants as Members
use Rattle.switched_law.specs.declared.switch_class.actors.TheConstants.{BUFFERS, SIZE}

-- a new buffer of a pool
abbrev pub new_page : (pool k : ℕ) → Paged
new_page pool k =
    record { pool = record { 0 = pool }; no = k; bytes = replicate SIZE 0 }

-- all buffers of a pool
pub record IsWhole (pool : ℕ) (pages : List Paged) : Type 0 where
  pub are_pool : ArePool 0 (record { 0 = pool }) SIZE pages
  pub many : length pages ≡ BUFFERS

-- a queue of a port, by its place among the four
abbrev pub queue_no : (port place : ℕ) → QueueId
queue_no port place = record { 0 = 4 * port + place }

-- the client of a port
pub record IsClientOf (ports : Ports) (port : ℕ) (c : NetClient) : Type 0 where
  pub mac : Mac
  pub frames : List (List ℕ)
  pub address : slice_get ports.macs port ≡ Some mac
  pub sends : slice_get ports.sends port ≡ Some frames
  pub pages : List Paged
  pub spare : List Paged
  pub rx : IsWhole (2 * port) pages
  pub tx : IsWhole (2 * port + 1) spare
  pub new : IsNewClient Program.Source mac (queue_no port 2) (queue_no port 3) (queue_no port 0)
      (queue_no port 1) pages spare frames c
  pub stands : ClientStandsFor c nothing_passed

-- a port as the switch has it
abbrev pub ends_of : (port : ℕ) → Mac → PortEnds
ends_of port mac = record {
  mac = mac;
  tx = queue_no port 0 ∷ queue_no port 1 ∷ [];
  rx = queue_no port 2 ∷ queue_no port 3 ∷ [];
}

-- the first ports, as the switch has them
pub record AreEnds (macs : List Mac) (ports : ℕ) (ends : List PortEnds) : Type 0 where
  pub many : length ends ≡ ports
  pub each : (port : ℕ) (mac : Mac) → port < ports → slice_get macs port ≡ Some mac
      → slice_get ends port ≡ Some (ends_of port mac)

-- the switch of these ports
pub record IsSwitchOf (ports : Ports) (v : NetSwitch) : Type 0 where
  pub ends : List PortEnds
  pub are : AreEnds ports.macs (length ports.macs) ends
  pub new : IsNewSwitch ends v
  pub stands : SwitchStandsFor v nothing_passed

-- the clients of the first ports
pub record AreClients (ports : Ports) (count : ℕ) (actors : List Member) : Type 0 where
  pub many : length actors ≡ count
  pub each : (port : ℕ) → port < count → (c : NetClient)
      × (slice_get actors port ≡ Some (Members.Client c)) × IsClientOf ports port c

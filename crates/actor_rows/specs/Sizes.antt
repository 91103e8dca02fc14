-- Actors of the network at four queues, of which the first and the third come to them and were
-- filled by hand before.
use Rattle.std.specs.Prelude.{◌≡◌, ◌⊎◌, ◌<◌, ◌+◌, ◌*◌, ◌^◌, ℕ, true, List, [], ◌∷◌, All, length}
use Rattle.cargo_core.specs.declared.item.PoolId.{PoolId}
use Rattle.cargo_core.specs.declared.item.QueueKind.TheVariants as Kind
use Rattle.cargo_core.specs.Pages.{Paged}
use Rattle.frame_core.specs.declared.mac.Mac.{Mac}
use Rattle.wire_core.specs.Lists.{nothing_passed}
use Rattle.wire_core.specs.Ends.{Consumer, Producer}
use Rattle.wire_core.specs.Queues.{Queue, start_bells, end_of, end_at}
use Rattle.device_model.specs.Ethernet.Devices.{FitsDevice}
use Rattle.device_model.specs.declared.ethernet.EthDevice.{EthDevice}
use Rattle.net_virt_rx.specs.Receiving.{FitsRx, IsNewRx, RxStandsFor}
use Rattle.net_virt_rx.specs.declared.NetVirtRx.{NetVirtRx}
use Rattle.net_copier.specs.Copying.{FitsCopier}
use Rattle.net_copier.specs.declared.NetCopier.{NetCopier}
use Rattle.client_programs.specs.Net.Clients.{FitsClient, IsNewClient}
use Rattle.client_programs.specs.declared.net.NetClient.{NetClient}
use Rattle.client_programs.specs.declared.net.program.NetProgram.{NetProgram}
use Rattle.turn_kit.specs.Pipes.{IsNewPipe}
use Rattle.pipe_driver.specs.Drivers.{FitsPipes}
use Rattle.eth_driver.specs.Four.{four_pipes}
use Rattle.eth_driver.specs.declared.EthDriver.{EthDriver}
use Rattle.actor_rows.specs.Standings.{queue}

-- the pool of all buffers of these tests
abbrev pub pool : PoolId
pool = record { 0 = 0 }

-- a queue that comes to the actor
abbrev pub IsInput : ℕ → Type 0
IsInput n = (n ≡ 0) ⊎ (n ≡ 2)

-- a queue that goes from it
abbrev pub IsOutput : ℕ → Type 0
IsOutput n = (n ≡ 1) ⊎ (n ≡ 3)

-- the actor's ends are in their start state, and all queues are of the network
pub record AreFed (w : List Queue) : Type 0 where
  pub long : length w ≡ 4
  pub inputs : (n : ℕ) → IsInput n → end_at w Consumer n ≡ end_of true Kind.Net start_bells Consumer
  pub outputs : (n : ℕ) → IsOutput n
      → end_at w Producer n ≡ end_of true Kind.Net start_bells Producer
  pub hands : (n : ℕ) → IsInput n → (end_at w Producer n).kind ≡ Kind.Net

-- an actor stands at four queues that it fits
pub record StandsAt (Fits : Type 0) (w : List Queue) : Type 0 where
  pub fits : Fits
  pub long : length w ≡ 4

-- an Ethernet device stands there: free buffers come at the queue 0 and go at 1, frames to send come
-- at 2, and their buffers go back at 3
pub record DeviceStands (w : List Queue) (d : EthDevice) : Type 0 where
  pub fits : FitsDevice (end_at w) d
  pub long : length w ≡ 4
  pub hands : (n : ℕ) → IsInput n → (end_at w Producer n).kind ≡ Kind.Net
  pub free : d.free.queue.0 ≡ 0
  pub active : d.active.queue.0 ≡ 1
  pub input : d.wire.pipe.input.queue.0 ≡ 2
  pub output : d.wire.pipe.output.queue.0 ≡ 3

-- a receiving virtualiser
abbrev pub LenderStands : List Queue → NetVirtRx → Type 0
LenderStands w v = StandsAt (FitsRx (end_at w) v) w

-- a copier: leases come at the queue 0 and go back at 1, buffers come at 2 and go at 3
pub record CopierStands (w : List Queue) (c : NetCopier) : Type 0 where
  pub fits : FitsCopier (end_at w) c
  pub long : length w ≡ 4
  pub hands : (n : ℕ) → IsInput n → (end_at w Producer n).kind ≡ Kind.Net
  pub leases : c.lease_input.queue.0 ≡ 0
  pub leases_back : c.lease_output.queue.0 ≡ 1
  pub buffers : c.buffer_input.queue.0 ≡ 2
  pub filled : c.buffer_output.queue.0 ≡ 3

-- a client
abbrev pub ClientStands : List Queue → NetClient → Type 0
ClientStands w c = StandsAt (FitsClient (end_at w) c) w

-- a receiving virtualiser of one client in its start state
pub record IsNewLender (v : NetVirtRx) : Type 0 where
  pub mac : Mac
  pub pages : List Paged
  pub new : IsNewRx (queue 0) (queue 1) 268435456
      (record { mac = mac; active = queue 3; free = queue 2 } ∷ []) pages v
  pub stands : RxStandsFor v nothing_passed

-- a client in its start state with one buffer each way; each frame of its script has at most 65,535
-- bytes
pub record IsNewSource (c : NetClient) : Type 0 where
  pub program : NetProgram
  pub mac : Mac
  pub pages : List Paged
  pub spare : List Paged
  pub script : List (List ℕ)
  pub new : IsNewClient program mac (queue 0) (queue 1) (queue 3) (queue 2) pages spare script c
  pub one : length pages ≡ 1
  pub one_spare : length spare ≡ 1
  pub short : All (λ frame. length frame < 2 ^ 16) script

-- of eight queues of the network those of even number come to the actor and the others go from it:
-- the actor's ends are in their start state
pub record AreFedEight (w : List Queue) : Type 0 where
  pub long : length w ≡ 8
  pub inputs : (k : ℕ) → k < 4
      → end_at w Consumer (2 * k) ≡ end_of true Kind.Net start_bells Consumer
  pub outputs : (k : ℕ) → k < 4
      → end_at w Producer (2 * k + 1) ≡ end_of true Kind.Net start_bells Producer
  pub hands : (k : ℕ) → k < 4 → (end_at w Producer (2 * k)).kind ≡ Kind.Net

-- a driver stands at eight queues that it fits
pub record FourStand (w : List Queue) (d : EthDriver) : Type 0 where
  pub fits : FitsPipes (end_at w) (four_pipes d.driver.pipes)
  pub long : length w ≡ 8

-- a driver in its start state, each of whose pipes leads from a queue of even number to the next
pub record IsNewFour (d : EthDriver) : Type 0 where
  pub first : IsNewPipe (queue 0) (queue 1) d.driver.pipes.first
  pub second : IsNewPipe (queue 2) (queue 3) d.driver.pipes.rest.first
  pub third : IsNewPipe (queue 4) (queue 5) d.driver.pipes.rest.rest.first
  pub fourth : IsNewPipe (queue 6) (queue 7) d.driver.pipes.rest.rest.rest

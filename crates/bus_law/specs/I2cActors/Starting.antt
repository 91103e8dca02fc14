-- The actors of a bus in their start state.
use Rattle.std.specs.Prelude.{◌≡◌, ◌+◌, ◌*◌, ◌++◌, ℕ, Some, List, [], ◌∷◌, length, slice_get}
use Rattle.wire_core.specs.declared.names.QueueId.{QueueId}
use Rattle.wire_core.specs.Lists.{nothing_passed}
use Rattle.turn_kit.specs.Pipes.{IsNewPipe}
use Rattle.i2c_text.specs.declared.bus.Bus.{Bus}
use Rattle.i2c_text.specs.declared.bus.BusAsk.{BusAsk}
use Rattle.i2c_virt.specs.I2cKit.Devices.{AreWhole}
use Rattle.i2c_virt.specs.declared.i2c_client.client.BusClient.{BusClient}
use Rattle.i2c_virt.specs.I2cClient.Asking.{IsAsking}
use Rattle.i2c_virt.specs.I2cClient.Clients.{IsNewClient, ClientStandsFor}
use Rattle.i2c_virt.specs.declared.virtualiser.I2cVirt.{I2cVirt}
use Rattle.i2c_virt.specs.declared.driver.BusDriver.{BusDriver}
use Rattle.i2c_virt.specs.declared.bus_device.BusDevice.{BusDevice}
use Rattle.i2c_virt.specs.Works.{IsWork}
use Rattle.i2c_virt.specs.Virtualising.{IsNewI2cVirt, I2cVirtStandsFor}
use Rattle.i2c_virt.specs.Drivers.{DriverStandsFor}
use Rattle.i2c_virt.specs.BusDevices.{IsNewBus, BusStandsFor}
use Rattle.bus_law.specs.declared.i2c_actors.member.Member.{Member}
use Rattle.bus_law.specs.declared.i2c_actors.member.Member.TheVariants as Members
use Rattle.bus_law.specs.I2cActors.Casting.{AreEverySecond}

-- a queue by its number
abbrev pub queue : ℕ → QueueId
queue n = record { 0 = n }

-- a client with these requests in its start state, by its place among the actors
pub record IsFresh (place : ℕ) (asks : List BusAsk) (c : BusClient) : Type 0 where
  pub new : IsNewClient (queue (2 * place)) (queue (2 * place + 1)) (record { 0 = place }) asks c
  pub asking : IsAsking c.asking
  pub stands : ClientStandsFor c nothing_passed

-- an actor is such a client
pub record IsClient (place : ℕ) (asks : List BusAsk) (x : Member) : Type 0 where
  pub client : BusClient
  pub is : x ≡ Members.Client client
  pub fresh : IsFresh place asks client

-- the actors are clients, one with each of these lists of requests
pub record AreFresh (asks : List (List BusAsk)) (clients : List Member) : Type 0 where
  pub many : length clients ≡ length asks
  pub each : (c : ℕ) (x : Member) → slice_get clients c ≡ Some x
      → (script : List BusAsk) × (slice_get asks c ≡ Some script) × IsClient c script x

-- the virtualiser of so many clients in its start state
pub record IsNewVirt (clients : ℕ) (v : I2cVirt) : Type 0 where
  pub reqs : List QueueId
  pub resps : List QueueId
  pub reqs_are : AreEverySecond 0 clients reqs
  pub resps_are : AreEverySecond 1 clients resps
  pub new : IsNewI2cVirt (queue (2 * clients)) (queue (2 * clients + 1)) reqs resps v
  pub work : IsWork v.work
  pub stands : I2cVirtStandsFor v nothing_passed

-- its driver in its start state
pub record IsNewDriver (clients : ℕ) (d : BusDriver) : Type 0 where
  pub requests : IsNewPipe (queue (2 * clients)) (queue (2 * clients + 2)) d.driver.pipes.first
  pub answers : IsNewPipe (queue (2 * clients + 3)) (queue (2 * clients + 1)) d.driver.pipes.rest
  pub stands : DriverStandsFor d nothing_passed

-- the bus itself in its start state, with devices at these addresses
pub record IsNewDevice (clients : ℕ) (addresses : List ℕ) (b : BusDevice) : Type 0 where
  pub new : IsNewBus (queue (2 * clients + 2)) (queue (2 * clients + 3)) addresses b
  pub whole : AreWhole b.devices.items
  pub stands : BusStandsFor b nothing_passed

-- the actors of a bus, each in its start state
pub record AreNew (bus : Bus) (members : List Member) : Type 0 where
  pub each : length bus.asks ≡ bus.clients
  pub clients : List Member
  pub virt : I2cVirt
  pub driver : BusDriver
  pub device : BusDevice
  pub members_are : members ≡ clients ++ Members.Virt virt ∷ Members.Driver driver
      ∷ Members.Bus device ∷ []
  pub fresh : AreFresh bus.asks clients
  pub new_virt : IsNewVirt bus.clients virt
  pub new_driver : IsNewDriver bus.clients driver
  pub new_device : IsNewDevice bus.clients bus.devices device

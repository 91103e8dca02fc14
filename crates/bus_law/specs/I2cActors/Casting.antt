-- The actors of a bus as they are made: which stands where, and what each is made of.
use Rattle.std.specs.Prelude.{◌≡◌, ◌+◌, ◌*◌, ◌<◌, ◌^◌, ℕ, Some, List, [], ◌∷◌, length}
use Rattle.std.specs.Prelude.{slice_get}
use Rattle.wire_core.specs.declared.names.QueueId.{QueueId}
use Rattle.i2c_text.specs.declared.bus.Bus.{Bus}
use Rattle.i2c_text.specs.declared.bus.BusAsk.{BusAsk}
use Rattle.i2c_virt.specs.I2cClient.Asking.{AreRequests}
use Rattle.bus_law.specs.declared.i2c_actors.member.Member.{Member}
use Rattle.bus_law.specs.I2cActors.Members.{Made, Asks, Serves, Copies, Answers, made_of}

-- a bus whose actors can be made: it has few clients, each has a list of requests, and each of
-- these is one that a text can give
pub record IsFitBus (bus : Bus) : Type 0 where
  pub few : bus.clients < 1024
  pub each : length bus.asks ≡ bus.clients
  pub good : (c : ℕ) (asks : List BusAsk) → slice_get bus.asks c ≡ Some asks → AreRequests asks
  pub short : (c : ℕ) (asks : List BusAsk) → slice_get bus.asks c ≡ Some asks
      → length asks < 2 ^ 32

-- an actor that is made of this stands at a place
pub record StandsAt (actors : List Member) (place : ℕ) (made : Made) : Type 0 where
  pub actor : Member
  pub there : slice_get actors place ≡ Some actor
  pub made_is : made_of actor ≡ made

-- one queue of each client, in the order of the clients: the first is this, each next one the
-- second after
pub record AreEverySecond (first clients : ℕ) (queues : List QueueId) : Type 0 where
  pub many : length queues ≡ clients
  pub each : (c : ℕ) → c < clients → slice_get queues c ≡ Some (record { 0 = 2 * c + first })

-- the actors of a bus: the clients, in their order, each with what it asks and with the pool of its
-- number, then the virtualiser, the driver and the bus, over the queues of the bus
pub record AreMade (bus : Bus) (start : List Member) : Type 0 where
  pub many : length start ≡ bus.clients + 3
  pub each : length bus.asks ≡ bus.clients
  pub clients : (c : ℕ) (asks : List BusAsk) → slice_get bus.asks c ≡ Some asks
      → StandsAt start c (Asks (2 * c) (2 * c + 1) (record { 0 = c }) asks)
  pub reqs : List QueueId
  pub resps : List QueueId
  pub reqs_are : AreEverySecond 0 bus.clients reqs
  pub resps_are : AreEverySecond 1 bus.clients resps
  pub virt : StandsAt start bus.clients
      (Serves (2 * bus.clients) (2 * bus.clients + 1) reqs resps bus.clients)
  pub driver : StandsAt start (bus.clients + 1)
      (Copies ((2 * bus.clients) ∷ (2 * bus.clients + 3) ∷ [])
      ((2 * bus.clients + 2) ∷ (2 * bus.clients + 1) ∷ []))
  pub bus_itself : StandsAt start (bus.clients + 2)
      (Answers (2 * bus.clients + 2) (2 * bus.clients + 3) bus.devices)

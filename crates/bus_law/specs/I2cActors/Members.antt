-- The actors of the bus, of all kinds, and what they mean to the player.
use Rattle.std.specs.Prelude.{ℕ, List, length}
use Rattle.cargo_core.specs.declared.item.PoolId.{PoolId}
use Rattle.wire_core.specs.declared.names.QueueId.{QueueId}
use Rattle.wire_core.specs.Ends.{Role, End}
use Rattle.wire_core.specs.Lists.{Passed}
use Rattle.turn_kit.specs.Turns.{Round}
use Rattle.buffer_kit.specs.Virtualising.{from_queues, to_queues}
use Rattle.pipe_driver.specs.Drivers.{FitsPipes, inputs_of, outputs_of}
use Rattle.small_system.specs.Meanings.{Means}
use Rattle.i2c_text.specs.declared.bus.BusAsk.{BusAsk}
use Rattle.i2c_virt.specs.I2cClient.Clients.{FitsClient, ClientStandsFor, client_round}
use Rattle.i2c_virt.specs.Virtualising.{FitsI2cVirt, I2cVirtStandsFor, i2c_virt_round}
use Rattle.i2c_virt.specs.Drivers.{pipes_of, driver_round, DriverStandsFor}
use Rattle.i2c_virt.specs.BusDevices.{FitsBus, BusStandsFor, bus_round}
use Rattle.bus_law.specs.declared.i2c_actors.member.Member.{Member}
use Rattle.bus_law.specs.declared.i2c_actors.member.Member.TheVariants as Members

-- what an actor is made of: its queues, of a client its pool and its requests too, of the
-- virtualiser the number of clients, and of the bus the addresses of its devices
pub data Made : Type 0 where
  Asks : (req resp : ℕ) → (pool : PoolId) → (script : List BusAsk) → Made
  Serves : (req resp : ℕ) → (reqs resps : List QueueId) → (clients : ℕ) → Made
  Copies : (from to : List ℕ) → Made
  Answers : (req resp : ℕ) → (addresses : List ℕ) → Made

-- what it is made of
abbrev pub made_of : Member → Made
made_of (Members.Client c) =
    Asks c.requests.queue.0 c.responses.queue.0 c.asking.pool c.asking.script
made_of (Members.Virt v) = Serves v.ends.output.queue.0 v.ends.input.queue.0 (from_queues v.ends)
    (to_queues v.ends) (length v.work.desks.items)
made_of (Members.Driver d) = Copies (inputs_of (pipes_of d)) (outputs_of (pipes_of d))
made_of (Members.Bus b) = Answers b.input.queue.0 b.output.queue.0 b.addresses

-- the turn that it is at
abbrev pub member_round : Member → Round
member_round (Members.Client c) = client_round c
member_round (Members.Virt v) = i2c_virt_round v
member_round (Members.Driver d) = driver_round d
member_round (Members.Bus b) = bus_round b

-- what it stands for
abbrev pub MemberStandsFor : Member → Passed → Type 0
MemberStandsFor (Members.Client c) passed = ClientStandsFor c passed
MemberStandsFor (Members.Virt v) passed = I2cVirtStandsFor v passed
MemberStandsFor (Members.Driver d) passed = DriverStandsFor d passed
MemberStandsFor (Members.Bus b) passed = BusStandsFor b passed

-- how its ends stand
abbrev pub FitsMember : (Role → ℕ → End) → Member → Type 0
FitsMember ends (Members.Client c) = FitsClient ends c
FitsMember ends (Members.Virt v) = FitsI2cVirt ends v
FitsMember ends (Members.Driver d) = FitsPipes ends (pipes_of d)
FitsMember ends (Members.Bus b) = FitsBus ends b

-- its meanings
abbrev pub member_means : Means Member
member_means = record {
  Part = Made;
  part = made_of;
  round = member_round;
  StandsFor = MemberStandsFor;
  Fits = FitsMember;
}

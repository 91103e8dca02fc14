-- A bus at play as the player shows it, and what its report says of it.
use Rattle.std.specs.Prelude.{◌≡◌, ℕ, List, [], length, map, take}
use Rattle.wire_core.specs.declared.names.QueueRow.{QueueRow}
use Rattle.wire_core.specs.Queues.{starts}
use Rattle.small_system.specs.Shows.{Shown, shown}
use Rattle.small_system.specs.Standing.{Begins}
use Rattle.i2c_text.specs.declared.bus.Bus.{Bus}
use Rattle.i2c_text.specs.declared.report.BusReply.{BusReply}
use Rattle.i2c_text.specs.declared.report.BusReport.{BusReport}
use Rattle.bus_law.specs.declared.i2c_actors.member.Member.{Member}
use Rattle.bus_law.specs.declared.i2c_actors.member.Member.TheVariants as Members
use Rattle.bus_law.specs.I2cActors.Members.{member_means}
use Rattle.bus_law.specs.I2cActors.Queues.{AreQueues}
use Rattle.bus_law.specs.I2cActors.Casting.{AreMade}
use Rattle.bus_law.specs.BusOwners.Pools.{table_after, pool_lines}

-- the actors of a bus are at its queues, before the first step
pub record IsSetUp (bus : Bus) (s : Shown Member) : Type 0 where
  pub queues : AreQueues bus.clients s.rows
  pub made : AreMade bus s.start
  pub begins : Begins member_means s.rows s.start
  pub is_start : s ≡ shown s.rows s.start (starts s.rows) s.start []

-- the replies that an actor recorded: only clients record any
abbrev pub recorded : Member → List BusReply
recorded (Members.Client c) = c.asking.replies.shown
recorded (Members.Virt v) = []
recorded (Members.Driver d) = []
recorded (Members.Bus b) = []

-- what each of the first actors recorded, so many of them
abbrev pub all_recorded : (clients : ℕ) → List Member → List (List BusReply)
all_recorded clients actors = map recorded (take clients actors)

-- the report says what the player shows
pub record IsReportOf (bus : Bus) (s : Shown Member) (report : BusReport) : Type 0 where
  pub journal : report.journal ≡ s.journal
  pub counted : report.steps ≡ length s.journal
  pub replies : report.replies ≡ all_recorded bus.clients s.moment.actors
  pub pools : report.pools ≡ pool_lines bus.clients (table_after bus.clients s.rows s.journal)

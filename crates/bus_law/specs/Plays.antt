-- A play of a bus.
use Rattle.std.specs.Prelude.{List}
use Rattle.wire_core.specs.declared.names.QueueRow.{QueueRow}
use Rattle.small_system.specs.Tales.{Turn, start_of, IsTale}
use Rattle.small_system.specs.Standing.{Begins}
use Rattle.i2c_text.specs.declared.bus.Bus.{Bus}
use Rattle.bus_law.specs.declared.i2c_actors.member.Member.{Member}
use Rattle.bus_law.specs.I2cActors.Members.{member_means}
use Rattle.bus_law.specs.I2cActors.Queues.{AreQueues}
use Rattle.bus_law.specs.I2cActors.Casting.{AreMade}

-- these turns are a play of the bus: the actors of the bus at its queues may begin, and the turns
-- are theirs
pub record IsBusTale (bus : Bus) (rows : List QueueRow) (start : List Member)
    (turns : List (Turn Member)) : Type 0 where
  pub queues : AreQueues bus.clients rows
  pub made : AreMade bus start
  pub begins : Begins member_means rows start
  pub tale : IsTale member_means (start_of rows start) turns

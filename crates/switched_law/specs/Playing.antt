-- A play of a switch between clients: its turns from the start state on.
use Rattle.std.specs.Prelude.{List, length}
use Rattle.line_text.specs.declared.ports_text.ports.Ports.{Ports}
use Rattle.wire_core.specs.declared.names.QueueRow.{QueueRow}
use Rattle.wire_core.specs.declared.names.Entry.{Entry}
use Rattle.small_system.specs.Tales.{Turn, start_of, IsTale, after_tale}
use Rattle.small_system.specs.Standing.{Begins}
use Rattle.small_system.specs.Wants.{calls_in}
use Rattle.switched_law.specs.declared.switch_class.member.Member.{Member}
use Rattle.switched_law.specs.SwitchClass.Members.{member_means}
use Rattle.switched_law.specs.SwitchClass.Queues.{AreQueues}
use Rattle.switched_law.specs.SwitchClass.Casting.{AreMade}
use Rattle.switched_law.specs.SwitchMoment.Scene.{ArePlayable}
use Rattle.switched_law.specs.SwitchMoment.Takes.{FromPort, frames_taken}

-- the clients of these ports and the switch stand at the queues in their start state, and turns
-- follow one another
pub record IsPlayed (ports : Ports) (rows : List QueueRow) (start : List Member)
    (turns : List (Turn Member)) : Type 0 where
  pub playable : ArePlayable ports
  pub queues : AreQueues (length ports.macs) rows
  pub made : AreMade ports start
  pub begins : Begins member_means rows start
  pub tale : IsTale member_means (start_of rows start) turns

-- the actors after these turns
abbrev pub actors_after : List QueueRow → List Member → List (Turn Member) → List Member
actors_after rows start turns = (after_tale (start_of rows start) turns).actors

-- what the switch took, in the order of its takes: by the calls of a journal on the queues of the
-- ports' frames, and by what the ports send
abbrev pub taken_by : Ports → List Entry → List FromPort
taken_by ports journal = frames_taken ports.sends (calls_in journal)

-- The actors of a switch's system, of both kinds, and what they mean to the player.
use Rattle.std.specs.Prelude.{ℕ, List}
use Rattle.frame_core.specs.declared.mac.Mac.{Mac}
use Rattle.wire_core.specs.declared.names.QueueId.{QueueId}
use Rattle.wire_core.specs.Ends.{Role, End}
use Rattle.wire_core.specs.Lists.{Passed}
use Rattle.turn_kit.specs.Turns.{Round}
use Rattle.owner_law.specs.Pools.Places.{PoolAt}
use Rattle.buffer_kit.specs.declared.stock.Stock.{Stock}
use Rattle.small_system.specs.Meanings.{Means}
use Rattle.client_programs.specs.declared.net.program.ClientProgram.{ClientProgram}
use Rattle.client_programs.specs.Net.Clients.{FitsClient, ClientStandsFor, client_round, rx_active}
use Rattle.client_programs.specs.Net.Clients.{rx_free, tx_active, tx_free}
use Rattle.net_switch.specs.Ends.{come_queues, back_queues, room_queues, copy_queues}
use Rattle.net_switch.specs.Switching.{FitsSwitch, SwitchStandsFor, switch_round}
use Rattle.switched_law.specs.declared.switch_class.member.Member.{Member}
use Rattle.switched_law.specs.declared.switch_class.member.Member.TheVariants as Members

-- what an actor is made of: a client's queues, its program, and its pools for receiving and for
-- sending; a switch's queues and the addresses of its ports
pub data Made : Type 0 where
  Runs : (rx_active rx_free tx_active tx_free : ℕ) → (program : ClientProgram) → (rx tx : PoolAt)
      → Made
  Switches : (come back room copy : List QueueId) → (macs : List Mac) → Made

-- the pool of which a stock has the buffers
abbrev pub pool_of : Stock → PoolAt
pool_of s = record { number = s.pool.0; base = s.base; buffers = s.buffers; size = s.size }

-- what it is made of
abbrev pub made_of : Member → Made
made_of (Members.Client c) = Runs (rx_active c) (rx_free c) (tx_active c) (tx_free c) c.program
    (pool_of c.stock) (pool_of c.outbox.stock)
made_of (Members.Switch v) = Switches (come_queues v.ends) (back_queues v.ends)
    (room_queues v.ends) (copy_queues v.ends) v.desk.macs.items

-- the turn that it is at
abbrev pub member_round : Member → Round
member_round (Members.Client c) = client_round c
member_round (Members.Switch v) = switch_round v

-- what it stands for
abbrev pub MemberStandsFor : Member → Passed → Type 0
MemberStandsFor (Members.Client c) passed = ClientStandsFor c passed
MemberStandsFor (Members.Switch v) passed = SwitchStandsFor v passed

-- how its ends stand
abbrev pub FitsMember : (Role → ℕ → End) → Member → Type 0
FitsMember ends (Members.Client c) = FitsClient ends c
FitsMember ends (Members.Switch v) = FitsSwitch ends v

-- its meanings
abbrev pub member_means : Means Member
member_means = record {
  Part = Made;
  part = made_of;
  round = member_round;
  StandsFor = MemberStandsFor;
  Fits = FitsMember;
}

-- Where the buffers of a switch's pools are.
use Rattle.std.specs.Prelude.{◌≡◌, ◌+◌, ℕ, List, sum_by}
use Rattle.cargo_core.specs.Bodies.{buffers_of}
use Rattle.wire_core.specs.declared.names.QueueRow.{QueueRow}
use Rattle.wire_core.specs.declared.names.Entry.{Entry}
use Rattle.wire_core.specs.Journal.{start_history}
use Rattle.wire_core.specs.Queues.{Queue}
use Rattle.turn_kit.specs.Hands.{bodies_of}
use Rattle.owner_law.specs.Owners.{Table, replay}
use Rattle.owner_law.specs.Keeping.{start_table}
use Rattle.owner_law.specs.Census.{Census}
use Rattle.switched_law.specs.declared.switch_class.actors.TheConstants.{BUFFERS}
use Rattle.switched_law.specs.SwitchOwners.Owning.{switch_naming, switch_keepers}

-- the table of owners after a journal of so many ports
abbrev pub table_after : (ports : ℕ) → List QueueRow → List Entry → Table
table_after ports rows journal = replay (switch_naming ports) (start_history rows)
    (start_table (switch_keepers ports)) journal

-- how many of a pool's buffers stand in the queues
abbrev pub queued : List Queue → (pool : ℕ) → ℕ
queued world pool =
    sum_by (λ (q : Queue). buffers_of (record { 0 = pool }) (bodies_of q.entries)) world

-- a pool's line after a journal: the pages that stand in the queues, the others in hands, and none
-- lent
pub record IsLine (queues : ℕ) (line : Census) : Type 0 where
  pub queues_are : line.queues ≡ queues
  pub all : line.queues + line.hands ≡ BUFFERS
  pub none_lent : line.lent ≡ 0

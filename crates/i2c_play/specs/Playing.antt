-- What the play of a bus promises of its report.
use Rattle.std.specs.Prelude.{◌≡◌, ◌≤◌, ◌<◌, ◌+◌, ℕ, true, false, Some, List, [], length, slice_get}
use Rattle.cargo_core.specs.Lists.{IsPrefix}
use Rattle.wire_core.specs.declared.names.QueueRow.{QueueRow}
use Rattle.wire_core.specs.declared.names.Entry.{Entry}
use Rattle.wire_core.specs.Journal.{start_history, EachMoment}
use Rattle.wire_core.specs.Picks.{PickedFrom}
use Rattle.play_core.specs.Still.{IsQuiet}
use Rattle.owner_law.specs.Owners.{OneOwner}
use Rattle.owner_law.specs.Keeping.{start_table}
use Rattle.owner_law.specs.Census.{IsPool}
use Rattle.small_system.specs.Tales.{Turn, journal_of}
use Rattle.small_system.specs.Standing.{IsLawful}
use Rattle.small_system.specs.Wants.{runs_by, wanted_by, calm}
use Rattle.i2c_text.specs.declared.bus.Bus.{Bus}
use Rattle.i2c_text.specs.declared.report.BusReply.{BusReply}
use Rattle.i2c_text.specs.declared.report.BusReport.{BusReport}
use Rattle.bus_law.specs.declared.i2c_actors.member.Member.{Member}
use Rattle.bus_law.specs.Plays.{IsBusTale}
use Rattle.bus_law.specs.Takes.{granted_replies}
use Rattle.bus_law.specs.Wants.{bus_wants}
use Rattle.bus_law.specs.BusOwners.Naming.{bus_naming}
use Rattle.bus_law.specs.BusOwners.Keepers.{bus_keepers, pool_size}
use Rattle.bus_law.specs.BusOwners.Pools.{table_after, pool_lines}
use Rattle.i2c_play.specs.Bounds.{bus_bound}

-- the actors that are runnable after a journal, by what the actors of the bus want of their ends
abbrev pub runnable_after : Bus → List QueueRow → List Entry → List ℕ
runnable_after bus rows journal = runs_by (bus_wants bus) rows (bus.clients + 3) journal

-- after a journal nobody is runnable: all that is wanted is settled, and nobody is called
abbrev pub IsQuietAfter : Bus → List QueueRow → List Entry → Type 0
IsQuietAfter bus rows journal = IsQuiet calm (start_history rows) rows
    (wanted_by (bus_wants bus) rows (bus.clients + 3) journal) journal

-- the turns of a report's journal: the actors of the bus make them from their start state on, and
-- the seed picks each of them among the actors that are runnable then
pub record AreItsTurns (bus : Bus) (seed : ℕ) (rows : List QueueRow) (journal : List Entry)
    : Type 0 where
  pub start : List Member
  pub turns : List (Turn Member)
  pub of_bus : IsBusTale bus rows start turns
  pub journal_is : journal ≡ journal_of turns
  pub picked : PickedFrom (runnable_after bus rows) seed [] journal
  -- each queue hands over what was put, once and in order, each call is in discipline, and bells
  -- and queues hold at each moment
  pub lawful : IsLawful rows journal

-- the replies that a report has of each client are a beginning of those that its own requests, the
-- devices and the addresses that were granted to it determine, and all of these at quiet
pub record TellsReplies (bus : Bus) (report : BusReport) : Type 0 where
  pub many : length report.replies ≡ bus.clients
  pub begins : (client : ℕ) (replies : List BusReply)
      → slice_get report.replies client ≡ Some replies
      → IsPrefix replies (granted_replies bus report.journal client)
  pub whole : report.quiet ≡ true → (client : ℕ) (replies : List BusReply)
      → slice_get report.replies client ≡ Some replies
      → replies ≡ granted_replies bus report.journal client

-- each buffer of the clients has one owner: at each moment each move so far found its buffer in the
-- place that it leaves, where at the start each client has its own two buffers; and the lines of
-- the pools are those of the table of owners after the journal
pub record TellsOwners (bus : Bus) (rows : List QueueRow) (report : BusReport) : Type 0 where
  pub one_owner : EachMoment (OneOwner (bus_naming bus.clients) (start_history rows)
      (start_table (bus_keepers bus.clients))) report.journal
  pub placed : (client : ℕ) → client < bus.clients
      → IsPool (start_table (bus_keepers bus.clients)) client (pool_size bus.clients client)
  pub pools : report.pools ≡ pool_lines bus.clients (table_after bus.clients rows report.journal)

-- a bus was played with a seed and a limit of steps, and reported so
pub record BusPlayed (bus : Bus) (seed limit : ℕ) (report : BusReport) : Type 0 where
  pub rows : List QueueRow
  pub its_turns : AreItsTurns bus seed rows report.journal
  -- the steps are the calls of the journal, and no more than may be made
  pub counted : report.steps ≡ length report.journal
  pub within : report.steps ≤ limit
  -- where it is quiet nobody is runnable; where it isn't somebody is, and all steps were made
  pub quiet : report.quiet ≡ true → IsQuietAfter bus rows report.journal
  pub goes_on : report.quiet ≡ false → runnable_after bus rows report.journal ≡ [] → ⊥
  pub spent : report.quiet ≡ false → report.steps ≡ limit
  -- it is quiet where it may make as many steps as are enough
  pub enough : bus_bound bus ≤ limit → report.quiet ≡ true
  pub replies : TellsReplies bus report
  pub owners : TellsOwners bus rows report

-- What rests between two actors of which neither is runnable: stated of one queue.
use Rattle.std.specs.Prelude.{◌≡◌, ◌+◌, ◌<◌, ◌≤◌, ℕ, Bool, true, false, nat_lt, length}
use Rattle.wire_core.specs.declared.names.BellState.{BellState}
use Rattle.wire_core.specs.declared.names.QueueRow.{QueueRow}
use Rattle.wire_core.specs.Bells.{is_free}
use Rattle.wire_core.specs.Ends.{is_clear}
use Rattle.wire_core.specs.Journal.{Track}

-- a bell at rest: no notification is pending, its ringer is at nothing, and where its waiter is
-- needed it is clear
pub record BellRests (b : BellState) (need : Bool) : Type 0 where
  pub silent : b.pending ≡ false
  pub free : is_free b.ringer ≡ true
  pub clear : need ≡ true → is_clear b.waiter ≡ true

-- a queue between two actors at rest, whose consumer needs an entry or not, and whose producer owes
-- one or not
pub record QueueRests (row : QueueRow) (t : Track) (needed owed : Bool) : Type 0 where
  -- no entry stands in a queue whose consumer needs one
  pub drained : needed ≡ true → t.sent ≡ t.taken
  -- an entry is owed before a full queue alone
  pub filled : owed ≡ true → length t.sent ≡ length t.taken + row.capacity
  -- so a queue that can hold an entry isn't needed and owed at once
  pub handed : 0 < row.capacity → needed ≡ true → owed ≡ false

-- more is due to the queue than was put
abbrev pub is_due : Track → ℕ → Bool
is_due t due = nat_lt (length t.sent) due

-- the same of a producer that owes as long as so many entries aren't put: all of them were, where
-- the consumer needs one, and where the queue could hold them all beside what was taken
pub record QueuePays (row : QueueRow) (t : Track) (needed : Bool) (due : ℕ) : Type 0 where
  pub needed_paid : 0 < row.capacity → needed ≡ true → due ≤ length t.sent
  pub roomy_paid : due ≤ length t.taken + row.capacity → due ≤ length t.sent

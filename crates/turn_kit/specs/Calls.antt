-- How many calls an end makes before it is settled or a mark comes, and which answer each call may
-- have.
use Rattle.std.specs.Prelude.{◌+◌, ◌&&◌, ◌||◌, not, ℕ, Bool, true, false, Option, Some, None}
use Rattle.wire_core.specs.declared.names.Op.{Op}
use Rattle.wire_core.specs.declared.names.Op.TheVariants as Do
use Rattle.wire_core.specs.declared.names.Answer.{Answer}
use Rattle.wire_core.specs.declared.names.Answer.TheVariants.{Done, Yes, No}
use Rattle.wire_core.specs.declared.names.Waiter.{Waiter}
use Rattle.wire_core.specs.declared.names.Waiter.TheVariants as Wait
use Rattle.wire_core.specs.declared.names.Ringer.{Ringer}
use Rattle.wire_core.specs.declared.names.Ringer.TheVariants as Rung
use Rattle.wire_core.specs.declared.names.Event.{Event}
use Rattle.wire_core.specs.declared.names.QueueId.{QueueId}
use Rattle.wire_core.specs.Ends.{is_clear}
use Rattle.turn_kit.specs.declared.end_state.EndState.{EndState}
use Rattle.turn_kit.specs.Table.{is_settled}

-- the answer says yes or no
abbrev pub is_told : Answer → Bool
is_told Yes = true
is_told No = true
is_told Done = false

-- looks, wake and wanted answer yes or no, the others nothing
abbrev pub may_answer : Op → Answer → Bool
may_answer Do.See a = is_told a
may_answer Do.Room a = is_told a
may_answer (Do.Wake s) a = is_told a
may_answer (Do.Wanted s) a = is_told a
may_answer Do.Take a = not (is_told a)
may_answer Do.Put a = not (is_told a)
may_answer (Do.Ask s) a = not (is_told a)
may_answer (Do.Waive s) a = not (is_told a)
may_answer (Do.Settle s) a = not (is_told a)
may_answer (Do.Ring s) a = not (is_told a)
may_answer (Do.Store w v) a = not (is_told a)

-- a call that moves no entry, with its answer
abbrev pub bare_event : QueueId → Op → Answer → Event
bare_event q op answer = record { queue = q; op = op; answer = answer; item = None }

-- the calls until the ringer is free
abbrev pub ring_left : Ringer → ℕ
ring_left Rung.Put = 3
ring_left Rung.Hot = 2
ring_left Rung.Ringing = 1
ring_left Rung.Free = 0

-- the calls, at most, until the waiter is clear or an entry is moved
abbrev pub wait_left : Waiter → Bool → Option Bool → ℕ
wait_left Wait.Clear need look = 0
wait_left w false look = 0
wait_left Wait.Asked true (Some true) = 1
wait_left Wait.Asked true (Some false) = 2
wait_left Wait.Asked true None = 2
wait_left w true (Some true) = 0
wait_left w true (Some false) = 3
wait_left w true None = 4

-- how many calls an end may still make before it is settled or a mark comes
abbrev pub calls_left : EndState → Bool → ℕ
calls_left k need = ring_left k.ringer + wait_left k.waiter need k.look

-- the calls, at most, until the waiter is clear, where no look answers yes
abbrev pub clear_left : Waiter → Bool → Option Bool → ℕ
clear_left Wait.Clear need look = 0
clear_left w false look = 0
clear_left w true (Some true) = 0
clear_left Wait.Asked true (Some false) = 1
clear_left Wait.Asked true None = 1
clear_left w true (Some false) = 2
clear_left w true None = 3

-- how many calls an end may still make until it is settled, where no mark comes
abbrev pub settling_left : EndState → Bool → ℕ
settling_left k need = ring_left k.ringer + clear_left k.waiter need k.look

-- the last look can be used, and answered yes
abbrev pub saw_yes : Option Bool → Bool
saw_yes (Some b) = b
saw_yes None = false

-- the end is needed and saw that it can move an entry: it will, so it isn't settled before a mark
abbrev pub is_moving : EndState → Bool → Bool
is_moving k need = need && (saw_yes k.look && not (is_clear k.waiter))

-- the waiter is off, or has asked and saw nothing
abbrev pub is_off_or_clear : Waiter → Bool
is_off_or_clear Wait.Off = true
is_off_or_clear Wait.Clear = true
is_off_or_clear Wait.Busy = false
is_off_or_clear Wait.Asked = false

-- the end is settled, and its next call is a wake
abbrev pub is_waking : EndState → Bool → Bool
is_waking k need = is_settled k need && (need || is_off_or_clear k.waiter)

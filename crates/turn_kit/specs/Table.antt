-- The decision table of one end: its next call, by what its owner keeps of it, and what is kept
-- after a call.
use Rattle.std.specs.Prelude.{◌≡◌, Bool, true, false, not, ◌||◌, ◌&&◌, Option, Some, None}
use Rattle.wire_core.specs.declared.names.Side.{Side}
use Rattle.wire_core.specs.declared.names.Side.TheVariants.{Forward, Backward}
use Rattle.wire_core.specs.declared.names.Op.{Op}
use Rattle.wire_core.specs.declared.names.Op.TheVariants as Do
use Rattle.wire_core.specs.declared.names.Answer.{Answer}
use Rattle.wire_core.specs.declared.names.Answer.TheVariants.{Done, Yes, No}
use Rattle.wire_core.specs.declared.names.Waiter.{Waiter}
use Rattle.wire_core.specs.declared.names.Waiter.TheVariants as Wait
use Rattle.wire_core.specs.declared.names.Ringer.{Ringer}
use Rattle.wire_core.specs.declared.names.Ringer.TheVariants as Rung
use Rattle.wire_core.specs.Bells.{is_free}
use Rattle.wire_core.specs.Ends.{End, is_clear, is_yes, looked_waiter, woken_waiter, wanted_ringer}
use Rattle.turn_kit.specs.declared.end_state.EndState.{EndState}

-- the other of the two bells
abbrev pub other_side : Side → Side
other_side Forward = Backward
other_side Backward = Forward

-- the look at an end: for an entry or for room
abbrev pub look_op : Side → Op
look_op Forward = Do.See
look_op Backward = Do.Room

-- the call that moves an entry at an end
abbrev pub act_op : Side → Op
act_op Forward = Do.Take
act_op Backward = Do.Put

-- the next call where the ringer is free
abbrev pub waiting_op : Waiter → Bool → Option Bool → Side → Op
waiting_op Wait.Clear need look s = Do.Wake s
waiting_op Wait.Off false look s = Do.Wake s
waiting_op Wait.Busy false look s = Do.Waive s
waiting_op Wait.Asked false look s = Do.Waive s
waiting_op Wait.Asked true (Some true) s = Do.Waive s
waiting_op Wait.Asked true (Some false) s = look_op s
waiting_op Wait.Asked true None s = look_op s
waiting_op Wait.Busy true (Some true) s = act_op s
waiting_op Wait.Busy true (Some false) s = Do.Ask s
waiting_op Wait.Busy true None s = look_op s
waiting_op Wait.Off true (Some true) s = act_op s
waiting_op Wait.Off true (Some false) s = Do.Ask s
waiting_op Wait.Off true None s = look_op s

-- the next call of an end
abbrev pub next_of : Ringer → Waiter → Bool → Option Bool → Side → Op
next_of Rung.Put w need look s = Do.Wanted (other_side s)
next_of Rung.Hot w need look s = Do.Settle (other_side s)
next_of Rung.Ringing w need look s = Do.Ring (other_side s)
next_of Rung.Free w need look s = waiting_op w need look s

-- the decision table: the next call at an end, by ringer, waiter, need and last look
abbrev pub next_op : EndState → Side → Bool → Op
next_op k s need = next_of k.ringer k.waiter need k.look s

-- what is left of a look after a waive: a yes alone
abbrev pub waived_look : Option Bool → Option Bool
waived_look (Some true) = Some true
waived_look (Some false) = None
waived_look None = None

-- what a wake leaves of the last look
abbrev pub woken_look : Answer → Option Bool → Option Bool
woken_look Yes l = None
woken_look No l = l
woken_look Done l = l

-- what the owner keeps after a call
abbrev pub state_after : EndState → Op → Answer → EndState
state_after k Do.See a = record k { waiter = looked_waiter k.waiter a; look = Some (is_yes a) }
state_after k Do.Room a = record k { waiter = looked_waiter k.waiter a; look = Some (is_yes a) }
state_after k Do.Take a = record k { ringer = Rung.Put; look = None }
state_after k Do.Put a = record k { ringer = Rung.Put; look = None }
state_after k (Do.Ask s) a = record k { waiter = Wait.Asked; look = None }
state_after k (Do.Waive s) a = record k { waiter = Wait.Off; look = waived_look k.look }
state_after k (Do.Wake s) a =
    record k { waiter = woken_waiter k.waiter a; look = woken_look a k.look }
state_after k (Do.Wanted s) a = record k { ringer = wanted_ringer a }
state_after k (Do.Settle s) a = record k { ringer = Rung.Ringing }
state_after k (Do.Ring s) a = record k { ringer = Rung.Free }
state_after k (Do.Store w v) a = k

-- the ringer is free and, where the end is needed, the waiter is clear
abbrev pub is_settled : EndState → Bool → Bool
is_settled k need = is_free k.ringer && (not need || is_clear k.waiter)

-- what is kept is so on the wires; a look that is kept as yes is unused there
pub record Agrees (e : End) (k : EndState) : Type 0 where
  pub owned : e.owned ≡ true
  pub waiter : e.waiter ≡ k.waiter
  pub ringer : e.ringer ≡ k.ringer
  pub looked : k.look ≡ Some true → e.looked ≡ true

-- what an end that waits on this side keeps at the start
abbrev pub start_state : Side → EndState
start_state Forward = record { waiter = Wait.Busy; ringer = Rung.Free; look = None }
start_state Backward = record { waiter = Wait.Off; ringer = Rung.Free; look = None }

-- the call is a look or one on a bell: those of the table that move no entry
abbrev pub is_plain_call : Op → Bool
is_plain_call Do.Take = false
is_plain_call Do.Put = false
is_plain_call Do.See = true
is_plain_call Do.Room = true
is_plain_call (Do.Ask s) = true
is_plain_call (Do.Waive s) = true
is_plain_call (Do.Wake s) = true
is_plain_call (Do.Wanted s) = true
is_plain_call (Do.Settle s) = true
is_plain_call (Do.Ring s) = true
is_plain_call (Do.Store w v) = false

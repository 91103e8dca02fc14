-- What the owner of an end knows of it, and when it may make each call.
use Rattle.std.specs.Prelude.{◌≡◌, ℕ, Bool, true, false}
use Rattle.cargo_core.specs.declared.item.QueueKind.{QueueKind}
use Rattle.wire_core.specs.declared.names.Event.{Event}
use Rattle.wire_core.specs.declared.names.Side.{Side}
use Rattle.wire_core.specs.declared.names.Side.TheVariants.{Forward, Backward}
use Rattle.cargo_core.specs.declared.act.Word.{Word}
use Rattle.cargo_core.specs.declared.act.Word.TheVariants as Words
use Rattle.wire_core.specs.declared.names.Op.{Op}
use Rattle.wire_core.specs.declared.names.Op.TheVariants as Do
use Rattle.wire_core.specs.declared.names.Answer.{Answer}
use Rattle.wire_core.specs.declared.names.Answer.TheVariants.{Done, Yes, No}
use Rattle.wire_core.specs.declared.names.Waiter.{Waiter}
use Rattle.wire_core.specs.declared.names.Waiter.TheVariants as Wait
use Rattle.wire_core.specs.declared.names.Ringer.{Ringer}
use Rattle.wire_core.specs.declared.names.Ringer.TheVariants as Rung

-- the two ends of a queue
pub data Role : Type 0 where
  Consumer : Role
  Producer : Role

-- what the owner of an end knows of it
pub record End : Type 0 where
  pub owned : Bool
  pub kind : QueueKind
  pub waiter : Waiter
  pub ringer : Ringer
  -- the last look answered yes, and nothing was moved since
  pub looked : Bool

-- which end waits on a side: forward the consumer, backward the producer
abbrev pub waiting_role : Side → Role
waiting_role Forward = Consumer
waiting_role Backward = Producer

-- which end rings on a side: forward the producer, backward the consumer
abbrev pub ringing_role : Side → Role
ringing_role Forward = Producer
ringing_role Backward = Consumer

-- whose word it is: the head the consumer's, the tail the producer's, and the two words of a bell
-- its waiter's
abbrev pub word_role : Word → Role
word_role Words.Head = Consumer
word_role Words.Tail = Producer
word_role Words.Flag = Consumer
word_role Words.FlagBack = Producer
word_role Words.Pending = Consumer
word_role Words.PendingBack = Producer

-- which end makes the call
abbrev pub role_of : Op → Role
role_of Do.See = Consumer
role_of Do.Take = Consumer
role_of Do.Put = Producer
role_of Do.Room = Producer
role_of (Do.Ask s) = waiting_role s
role_of (Do.Waive s) = waiting_role s
role_of (Do.Wake s) = waiting_role s
role_of (Do.Wanted s) = ringing_role s
role_of (Do.Settle s) = ringing_role s
role_of (Do.Ring s) = ringing_role s
-- a store is at the end whose word it is, whoever makes it
role_of (Do.Store w v) = word_role w

-- the waiter hasn't asked
abbrev pub is_busy_or_off : Waiter → Bool
is_busy_or_off Wait.Busy = true
is_busy_or_off Wait.Off = true
is_busy_or_off Wait.Asked = false
is_busy_or_off Wait.Clear = false

-- the waiter asked, looked and saw nothing
abbrev pub is_clear : Waiter → Bool
is_clear Wait.Clear = true
is_clear Wait.Busy = false
is_clear Wait.Off = false
is_clear Wait.Asked = false

-- the ringer has found no wish for a notification yet
abbrev pub is_free_or_put : Ringer → Bool
is_free_or_put Rung.Free = true
is_free_or_put Rung.Put = true
is_free_or_put Rung.Hot = false
is_free_or_put Rung.Ringing = false

-- the condition of a call, at the end that makes it
abbrev pub Condition : End → Op → Type 0
Condition e Do.See = is_clear e.waiter ≡ false
Condition e Do.Room = is_clear e.waiter ≡ false
Condition e Do.Take = (is_clear e.waiter ≡ false) × (e.looked ≡ true)
    × (is_free_or_put e.ringer ≡ true)
Condition e Do.Put = (is_clear e.waiter ≡ false) × (e.looked ≡ true)
    × (is_free_or_put e.ringer ≡ true)
Condition e (Do.Ask s) = is_busy_or_off e.waiter ≡ true
Condition e (Do.Waive s) = Unit {0}
Condition e (Do.Wake s) = Unit {0}
Condition e (Do.Wanted s) = e.ringer ≡ Rung.Put
Condition e (Do.Settle s) = e.ringer ≡ Rung.Hot
Condition e (Do.Ring s) = e.ringer ≡ Rung.Ringing
Condition e (Do.Store w v) = Unit {0}

-- the end is the caller's own, and the call's condition holds there
pub record Allows (e : End) (o : Op) : Type 0 where
  pub owned : e.owned ≡ true
  pub condition : Condition e o

-- the answer is yes
abbrev pub is_yes : Answer → Bool
is_yes Yes = true
is_yes No = false
is_yes Done = false

-- a look that answers no makes an asking waiter clear
abbrev pub looked_waiter : Waiter → Answer → Waiter
looked_waiter Wait.Asked No = Wait.Clear
looked_waiter Wait.Asked Yes = Wait.Asked
looked_waiter Wait.Asked Done = Wait.Asked
looked_waiter Wait.Busy a = Wait.Busy
looked_waiter Wait.Clear a = Wait.Clear
looked_waiter Wait.Off a = Wait.Off

-- the waiter after a wake with this answer
abbrev pub woken_waiter : Waiter → Answer → Waiter
woken_waiter w Yes = Wait.Busy
woken_waiter w No = w
woken_waiter w Done = w

-- the ringer after it asked whether a notification is wanted
abbrev pub wanted_ringer : Answer → Ringer
wanted_ringer Yes = Rung.Hot
wanted_ringer No = Rung.Free
wanted_ringer Done = Rung.Free

-- what a call does to the end that makes it
abbrev pub end_after : End → Op → Answer → End
end_after e Do.See a = record e { waiter = looked_waiter e.waiter a; looked = is_yes a }
end_after e Do.Room a = record e { waiter = looked_waiter e.waiter a; looked = is_yes a }
end_after e Do.Take a = record e { looked = false; ringer = Rung.Put }
end_after e Do.Put a = record e { looked = false; ringer = Rung.Put }
end_after e (Do.Ask s) a = record e { waiter = Wait.Asked }
end_after e (Do.Waive s) a = record e { waiter = Wait.Off }
end_after e (Do.Wake s) a = record e { waiter = woken_waiter e.waiter a }
end_after e (Do.Wanted s) a = record e { ringer = wanted_ringer a }
end_after e (Do.Settle s) a = record e { ringer = Rung.Ringing }
end_after e (Do.Ring s) a = record e { ringer = Rung.Free }
end_after e (Do.Store w v) a = e

-- the call changed the one end that made it, as the table says
pub record Moves (old : Role → ℕ → End) (e : Event) (new : Role → ℕ → End) : Type 0 where
  pub this : new (role_of e.op) e.queue.0 ≡ end_after (old (role_of e.op) e.queue.0) e.op e.answer
  pub others : (r : Role) (n : ℕ) → (r ≡ role_of e.op → n ≡ e.queue.0 → ⊥) → new r n ≡ old r n
  pub kinds : (r : Role) (n : ℕ) → (new r n).kind ≡ (old r n).kind

-- Which actors may be picked to make the next call, by what each of them wants.
use Rattle.std.specs.Prelude.{◌+◌, ◌==◌, ◌||◌, ℕ, Bool, true, false, not, if◌then◌else◌, Option}
use Rattle.std.specs.Prelude.{Some, None, List, [], ◌∷◌}
use Rattle.wire_core.specs.declared.names.QueueRow.{QueueRow}
use Rattle.wire_core.specs.declared.names.Entry.{Entry}
use Rattle.wire_core.specs.declared.names.Op.{Op}
use Rattle.wire_core.specs.declared.names.Op.TheVariants as Do
use Rattle.wire_core.specs.Ends.{role_of, waiting_role}
use Rattle.wire_core.specs.Queues.{calls}
use Rattle.wire_core.specs.Journal.{History, track, owner_of}
use Rattle.play_core.specs.Wants.{Want, Needful, all_settled}
use Rattle.play_core.specs.Manners.{Manner, Calm, Hostile, Manners, calls_of}

-- a pending word of one of this actor's waiters is 1, at a queue from number n on
abbrev pub called_from : ℕ → ℕ → History → List QueueRow → List Entry → Bool
called_from actor n history [] journal = false
called_from actor n history (row ∷ rows) journal =
    calls actor row.producer.0 row.consumer.0 (track history n journal).bells
    || called_from actor (n + 1) history rows journal

-- actor k, which wants this, is runnable: a calm one where it isn't at rest, or a pending word of
-- one of its waiters is 1; a hostile one where it isn't done
abbrev pub is_runnable : Manner → ℕ → List Want → History → List QueueRow → List Entry → Bool
is_runnable Calm k ws history rows journal =
    not (all_settled history journal ws) || called_from k 0 history rows journal
is_runnable (Hostile done) k ws history rows journal = not (done (calls_of k journal))

-- whether each actor is runnable, from number k on
abbrev pub flags_from : Manners → ℕ → History → List QueueRow → Needful → List Entry → List Bool
flags_from manner k history rows [] journal = []
flags_from manner k history rows (ws ∷ actors) journal =
    is_runnable (manner k) k ws history rows journal
    ∷ flags_from manner (k + 1) history rows actors journal

-- a number before some others, where a condition holds
abbrev pub if_so : Bool → ℕ → List ℕ → List ℕ
if_so true k ks = k ∷ ks
if_so false k ks = ks

-- the places where it is so, from k on
abbrev pub places_from : ℕ → List Bool → List ℕ
places_from k [] = []
places_from k (b ∷ bs) = if_so b k (places_from (k + 1) bs)

-- the runnable actors, in their order
abbrev pub runnable : Manners → History → List QueueRow → Needful → List Entry → List ℕ
runnable manner history rows actors journal =
    places_from 0 (flags_from manner 0 history rows actors journal)

-- the actor whose pending word a call on a queue of this row sets, if it sets one
abbrev pub rung_at : Op → QueueRow → Option ℕ
rung_at (Do.Ring s) row = Some (owner_of row (waiting_role s))
-- a store to a pending word is at the end whose word it is
rung_at (Do.Store w v) row = None
rung_at (Do.Ask s) row = None
rung_at (Do.Waive s) row = None
rung_at (Do.Wake s) row = None
rung_at (Do.Wanted s) row = None
rung_at (Do.Settle s) row = None
rung_at Do.See row = None
rung_at Do.Room row = None
rung_at Do.Take row = None
rung_at Do.Put row = None

-- the other owner of a queue
abbrev pub other_owner : QueueRow → ℕ → ℕ
other_owner row k = if row.producer.0 == k then row.consumer.0 else row.producer.0

-- a call at an end of its own may change for the other owner whether that one is runnable: it
-- stores a word of that one's notifications
abbrev pub reaches : Op → Bool
reaches (Do.Ring s) = true
reaches (Do.Store w v) = false
reaches (Do.Ask s) = false
reaches (Do.Waive s) = false
reaches (Do.Wake s) = false
reaches (Do.Wanted s) = false
reaches (Do.Settle s) = false
reaches Do.See = false
reaches Do.Room = false
reaches Do.Take = false
reaches Do.Put = false

-- beside actor k, which makes a call on a queue of this row, the one for which the call may change
-- whether it is runnable: the other owner, where the call reaches it or is made at its end
abbrev pub reach_of : Op → QueueRow → ℕ → Option ℕ
reach_of op row k =
    if reaches op || not (owner_of row (role_of op) == k) then Some (other_owner row k) else None

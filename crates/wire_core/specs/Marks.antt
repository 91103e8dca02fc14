-- Marks: where an actor gets somewhere, and how many calls it makes between two of them. They stand
-- here, below all actors, since a bound on the length of a journal follows from them and from what
-- the queues show alone.
use Rattle.std.specs.Prelude.{◌≡◌, ◌==◌, ◌&&◌, ◌||◌, ◌+◌, ◌≤◌, ◌<◌, ℕ, zero, suc, Bool, true, false}
use Rattle.std.specs.Prelude.{cond, Some, List, [], ◌∷◌, ◌++◌, length, slice_get}
use Rattle.wire_core.specs.declared.names.Event.{Event}
use Rattle.wire_core.specs.declared.names.Entry.{Entry}
use Rattle.wire_core.specs.declared.names.QueueRow.{QueueRow}
use Rattle.wire_core.specs.declared.names.Op.{Op}
use Rattle.wire_core.specs.declared.names.Op.TheVariants as Do
use Rattle.wire_core.specs.declared.names.Answer.{Answer}
use Rattle.wire_core.specs.declared.names.Answer.TheVariants.{Done, Yes, No}
use Rattle.wire_core.specs.Bells.{bit}
use Rattle.wire_core.specs.Ends.{Role, Consumer, Producer, role_of}
use Rattle.wire_core.specs.Journal.{History, Hostiles, is_calm, track, owner_of, EachMoment}

-- a call that is a mark wherever it is made: a take, a put, or a wake that answers yes
abbrev pub is_mark : Op → Answer → Bool
is_mark Do.Take a = true
is_mark Do.Put a = true
is_mark (Do.Wake s) Yes = true
is_mark (Do.Wake s) No = false
is_mark (Do.Wake s) Done = false
is_mark Do.See a = false
is_mark Do.Room a = false
is_mark (Do.Ask s) a = false
is_mark (Do.Waive s) a = false
is_mark (Do.Wanted s) a = false
is_mark (Do.Settle s) a = false
is_mark (Do.Ring s) a = false
is_mark (Do.Store w v) a = false

-- a look that answers no
abbrev pub is_vain_look : Op → Answer → Bool
is_vain_look Do.See No = true
is_vain_look Do.Room No = true
is_vain_look Do.See Yes = false
is_vain_look Do.See Done = false
is_vain_look Do.Room Yes = false
is_vain_look Do.Room Done = false
is_vain_look Do.Take a = false
is_vain_look Do.Put a = false
is_vain_look (Do.Ask s) a = false
is_vain_look (Do.Waive s) a = false
is_vain_look (Do.Wake s) a = false
is_vain_look (Do.Wanted s) a = false
is_vain_look (Do.Settle s) a = false
is_vain_look (Do.Ring s) a = false
is_vain_look (Do.Store w v) a = false

-- at which entries an actor drops what it had yet to put: looks that answer no, at ends where it
-- doesn't wait
abbrev pub Drops : Type 0
Drops = Entry → Bool

-- every actor waits
abbrev pub no_drops : Drops
no_drops e = false

-- a drop is a mark too
abbrev pub is_marked : Drops → Entry → Bool
is_marked drops e = drops e || is_mark e.event.op e.event.answer

-- how many entries are drops
abbrev pub dropped : Drops → List Entry → ℕ
dropped drops [] = 0
dropped drops (e ∷ es) = bit (drops e) + dropped drops es

-- the calls since the last mark, with one call more, which is a mark or none
abbrev pub calls_after : Bool → List Event → Event → List Event
calls_after true es e = []
calls_after false es e = es ++ e ∷ []

-- the calls of actor a since its last mark, with one entry more
abbrev pub since_after : Drops → ℕ → List Event → Entry → List Event
since_after drops a es e = cond (e.actor.0 == a) (calls_after (is_marked drops e) es e.event) es

-- an actor's calls since its last mark, from some calls on and over a journal
abbrev pub since_from : Drops → ℕ → List Event → List Entry → List Event
since_from drops a es [] = es
since_from drops a es (e ∷ js) = since_from drops a (since_after drops a es e) js

-- the calls of actor a since its last mark; where it had none, since the journal's beginning
abbrev pub since : Drops → ℕ → List Entry → List Event
since drops a journal = since_from drops a [] journal

-- the two roles are one
abbrev pub is_role : Role → Role → Bool
is_role Consumer Consumer = true
is_role Producer Producer = true
is_role Consumer Producer = false
is_role Producer Consumer = false

-- how many of the calls are on the end r of queue n
abbrev pub calls_at : Role → ℕ → List Event → ℕ
calls_at r n [] = 0
calls_at r n (e ∷ es) = bit (is_role (role_of e.op) r && (e.queue.0 == n)) + calls_at r n es

-- actor a isn't hostile, and no queue of which it has an end has a hostile one
pub record HasCalmQueues (hostile : Hostiles) (rows : List QueueRow) (a : ℕ) : Type 0 where
  pub calm : hostile a ≡ false
  pub queues : (n : ℕ) (row : QueueRow) → slice_get rows n ≡ Some row → (r : Role)
      → owner_of row r ≡ a → is_calm hostile row ≡ true

-- since its last mark each actor with calm queues alone made at most 8 calls on each of its ends
abbrev pub AreFew : Hostiles → List QueueRow → Drops → List Entry → Type 0
AreFew hostile rows drops journal = (a : ℕ) → HasCalmQueues hostile rows a → (r : Role) (n : ℕ)
    → calls_at r n (since drops a journal) ≤ 8

-- a journal is brisk where this is so at each moment: between two marks of an actor that follow
-- each other, and after its last one, it makes at most 8 calls on each of its ends; of an actor
-- with a hostile one at the other end of a queue it isn't claimed
abbrev pub Brisk : Hostiles → List QueueRow → Drops → List Entry → Type 0
Brisk hostile rows drops journal = EachMoment (AreFew hostile rows drops) journal

-- how many ends of queues actor a has
abbrev pub ends_of : ℕ → List QueueRow → ℕ
ends_of a [] = 0
ends_of a (row ∷ rows) = bit (row.consumer.0 == a) + bit (row.producer.0 == a) + ends_of a rows

-- each owner of an end is one of so many actors
abbrev pub AreOwned : List QueueRow → ℕ → Type 0
AreOwned rows actors = (n : ℕ) (row : QueueRow) → slice_get rows n ≡ Some row → (r : Role)
    → owner_of row r < actors

-- the sum of a function over the numbers below one
abbrev pub sum_below : (ℕ → ℕ) → ℕ → ℕ
sum_below f zero = 0
sum_below f (suc k) = sum_below f k + f k

-- how many entries were put, to all queues together, before the journal and in it
abbrev pub all_sent : History → List QueueRow → List Entry → ℕ
all_sent history rows journal = sum_below (λ n. length (track history n journal).sent) (length rows)

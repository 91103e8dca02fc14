-- Histories, journals and moments, and the laws of a legal journal.
use Rattle.std.specs.Prelude.{◌≡◌, ◌==◌, ◌&&◌, ◌+◌, ◌≤◌, ℕ, Bool, true, false, not, nat_lt, Option}
use Rattle.std.specs.Prelude.{Some, None, List, [], ◌∷◌, ◌++◌, length, map, slice_get}
use Rattle.std.specs.Prelude.{slice_index_or}
use Rattle.std.specs.Option.{option_to_list}
use Rattle.cargo_core.specs.declared.item.Item.{Item}
use Rattle.cargo_core.specs.declared.item.QueueKind.{QueueKind}
use Rattle.cargo_core.specs.Items.{kind_of}
use Rattle.cargo_core.specs.Lists.{IsPrefix}
use Rattle.wire_core.specs.declared.names.Event.{Event}
use Rattle.wire_core.specs.declared.names.Entry.{Entry}
use Rattle.wire_core.specs.declared.names.QueueRow.{QueueRow}
use Rattle.wire_core.specs.declared.names.Op.{Op}
use Rattle.wire_core.specs.declared.names.Op.TheVariants as Do
use Rattle.wire_core.specs.declared.names.Answer.{Answer}
use Rattle.wire_core.specs.declared.names.Answer.TheVariants.{Done, Yes, No}
use Rattle.wire_core.specs.Bells.{BellHolds}
use Rattle.wire_core.specs.Ends.{Role, Consumer, Producer, Condition, role_of}
use Rattle.wire_core.specs.Queues.{Bells, Queue, items_of, bells_after, start_bells, end_of}
use Rattle.wire_core.specs.Queues.{is_store, Finds, Tells}

-- what one end did: its looks that answered no, and its steps
pub record Tally : Type 0 where
  pub noes : ℕ
  pub steps : ℕ

-- what a history or a journal shows of a queue: the items that were put, those that were taken, the
-- bells, and what each end did
pub record Track : Type 0 where
  pub sent : List Item
  pub taken : List Item
  pub bells : Bells
  pub consumer : Tally
  pub producer : Tally

-- nothing was counted
abbrev pub no_tally : Tally
no_tally = record { noes = 0; steps = 0 }

-- nothing was put or taken, and no call was made
abbrev pub start_track : Track
start_track = record {
  sent = [];
  taken = [];
  bells = start_bells;
  consumer = no_tally;
  producer = no_tally;
}

-- a history gives each queue's track before the journal begins; that of a system which was built
-- has start tracks
abbrev pub History : Type 0
History = List Track

-- the history of a table of queues in which nothing happened yet
abbrev pub start_history : List QueueRow → History
start_history rows = map (λ row. start_track) rows

-- what a history has of a queue
abbrev pub history_at : History → ℕ → Track
history_at history n = slice_index_or history n start_track

-- what was put, after one more call
abbrev pub sent_after : List Item → Op → List Item → List Item
sent_after xs Do.Put c = xs ++ c
sent_after xs Do.Take c = xs
sent_after xs Do.See c = xs
sent_after xs Do.Room c = xs
sent_after xs (Do.Ask s) c = xs
sent_after xs (Do.Waive s) c = xs
sent_after xs (Do.Wake s) c = xs
sent_after xs (Do.Wanted s) c = xs
sent_after xs (Do.Settle s) c = xs
sent_after xs (Do.Ring s) c = xs
sent_after xs (Do.Store w v) c = xs

-- what was taken, after one more call
abbrev pub taken_after : List Item → Op → List Item → List Item
taken_after xs Do.Take c = xs ++ c
taken_after xs Do.Put c = xs
taken_after xs Do.See c = xs
taken_after xs Do.Room c = xs
taken_after xs (Do.Ask s) c = xs
taken_after xs (Do.Waive s) c = xs
taken_after xs (Do.Wake s) c = xs
taken_after xs (Do.Wanted s) c = xs
taken_after xs (Do.Settle s) c = xs
taken_after xs (Do.Ring s) c = xs
taken_after xs (Do.Store w v) c = xs

-- a look that answers no is one more no
abbrev pub noes_after : ℕ → Op → Answer → ℕ
noes_after n Do.See No = n + 1
noes_after n Do.See Yes = n
noes_after n Do.See Done = n
noes_after n Do.Room No = n + 1
noes_after n Do.Room Yes = n
noes_after n Do.Room Done = n
noes_after n Do.Take a = n
noes_after n Do.Put a = n
noes_after n (Do.Ask s) a = n
noes_after n (Do.Waive s) a = n
noes_after n (Do.Wake s) a = n
noes_after n (Do.Wanted s) a = n
noes_after n (Do.Settle s) a = n
noes_after n (Do.Ring s) a = n
noes_after n (Do.Store w v) a = n

-- a store may be another's, so it is no step of the end whose word it is
abbrev pub steps_after : ℕ → Op → ℕ
steps_after n (Do.Store w v) = n
steps_after n Do.See = n + 1
steps_after n Do.Room = n + 1
steps_after n Do.Take = n + 1
steps_after n Do.Put = n + 1
steps_after n (Do.Ask s) = n + 1
steps_after n (Do.Waive s) = n + 1
steps_after n (Do.Wake s) = n + 1
steps_after n (Do.Wanted s) = n + 1
steps_after n (Do.Settle s) = n + 1
steps_after n (Do.Ring s) = n + 1

-- each call is one step of the end that makes it
abbrev pub tally_after : Tally → Role → Role → Op → Answer → Tally
tally_after y Consumer Consumer o a =
    record { noes = noes_after y.noes o a; steps = steps_after y.steps o }
tally_after y Producer Producer o a =
    record { noes = noes_after y.noes o a; steps = steps_after y.steps o }
tally_after y Consumer Producer o a = y
tally_after y Producer Consumer o a = y

-- what is shown of a queue after one more event there
abbrev pub track_after : Track → Event → Track
track_after t e = record {
  sent = sent_after t.sent e.op (option_to_list e.item);
  taken = taken_after t.taken e.op (option_to_list e.item);
  bells = bells_after t.bells e.op e.answer;
  consumer = tally_after t.consumer Consumer (role_of e.op) e.op e.answer;
  producer = tally_after t.producer Producer (role_of e.op) e.op e.answer;
}

-- the new track where the event was on this queue, else the old one
abbrev pub if_on : Bool → Track → Track → Track
if_on true new old = new
if_on false new old = old

-- the track of queue n after a journal that begins with the track t
abbrev pub track_from : Track → ℕ → List Entry → Track
track_from t n [] = t
track_from t n (e ∷ es) = track_from (if_on (e.event.queue.0 == n) (track_after t e.event) t) n es

-- the track of queue n after a journal that begins with this history
abbrev pub track : History → ℕ → List Entry → Track
track history n journal = track_from (history_at history n) n journal

-- a queue is what a track shows
pub record IsShown (row : QueueRow) (q : Queue) (t : Track) : Type 0 where
  pub kind : q.kind ≡ row.kind
  pub capacity : q.capacity ≡ row.capacity
  pub producer : q.producer ≡ row.producer.0
  pub consumer : q.consumer ≡ row.consumer.0
  pub lists : t.sent ≡ t.taken ++ items_of q.entries
  pub bells : q.bells ≡ t.bells

-- the item that a call moves: a take the next one that was put, a put one of the queue's kind
abbrev pub CarriesItem : QueueKind → Track → Op → Option Item → Type 0
CarriesItem k t Do.Take item = (i : Item) × (item ≡ Some i)
    × (slice_get t.sent (length t.taken) ≡ Some i)
CarriesItem k t Do.Put item = (i : Item) × (item ≡ Some i) × (kind_of i ≡ k)
CarriesItem k t Do.See item = item ≡ None
CarriesItem k t Do.Room item = item ≡ None
CarriesItem k t (Do.Ask s) item = item ≡ None
CarriesItem k t (Do.Waive s) item = item ≡ None
CarriesItem k t (Do.Wake s) item = item ≡ None
CarriesItem k t (Do.Wanted s) item = item ≡ None
CarriesItem k t (Do.Settle s) item = item ≡ None
CarriesItem k t (Do.Ring s) item = item ≡ None
CarriesItem k t (Do.Store w v) item = item ≡ None

-- the actor at an end of a queue
abbrev pub owner_of : QueueRow → Role → ℕ
owner_of row Consumer = row.consumer.0
owner_of row Producer = row.producer.0

-- which actors are hostile
abbrev pub Hostiles : Type 0
Hostiles = ℕ → Bool

-- no actor is hostile
abbrev pub nobody : Hostiles
nobody actor = false

-- neither owner of a queue is hostile
abbrev pub is_calm : Hostiles → QueueRow → Bool
is_calm hostile row = not (hostile row.producer.0) && not (hostile row.consumer.0)

-- an entry stands in the queue, by its track
abbrev pub is_sent : Track → Bool
is_sent t = nat_lt (length t.taken) (length t.sent)

-- the queue has room, by its track
abbrev pub is_open : QueueRow → Track → Bool
is_open row t = nat_lt (length t.sent) (length t.taken + row.capacity)

-- actor k may call at the end r of a queue of this row: it has an end of the queue, and unless it
-- is hostile it has that one
pub record MayCall (hostile : Hostiles) (row : QueueRow) (r : Role) (k : ℕ) : Type 0 where
  pub some : (x : Role) × (owner_of row x ≡ k)
  pub own : hostile k ≡ false → owner_of row r ≡ k

-- the queue law and the discipline at one entry of a journal on a queue of this row, where t is the
-- queue's track just before it. That entries are handed over in order, and within the capacity, is
-- claimed of every queue; that answers are by the words and the lists of one with no hostile end
pub record Legal (hostile : Hostiles) (row : QueueRow) (t : Track) (e : Entry) : Type 0 where
  -- the call is made by an actor that may make it
  pub caller : MayCall hostile row (role_of e.event.op) e.actor.0
  -- nobody but a hostile actor stores
  pub stores : is_store e.event.op ≡ true → hostile e.actor.0 ≡ true
  -- the discipline: its condition holds
  pub condition : Condition (end_of true row.kind t.bells (role_of e.event.op)) e.event.op
  -- once and in order, within the capacity, and of the queue's kind
  pub finds : Finds (is_sent t) (is_open row t) e.event.op e.event.answer
  pub carries : CarriesItem row.kind t e.event.op e.event.item
  -- it answers by what was put and taken, and by the last stores
  pub tells : is_calm hostile row ≡ true
      → Tells (is_sent t) (is_open row t) t.bells e.event.op e.event.answer

-- an entry is legal where its queue is there and it is legal on it
pub record LegalEntry (hostile : Hostiles) (history : History) (rows : List QueueRow)
    (before : List Entry) (e : Entry) : Type 0 where
  pub row : QueueRow
  pub there : slice_get rows e.event.queue.0 ≡ Some row
  pub legal : Legal hostile row (track history e.event.queue.0 before) e

-- P of each entry and of the journal before it
abbrev pub EachFrom : (List Entry → Entry → Type 0) → List Entry → List Entry → Type 0
EachFrom P before [] = Unit {0}
EachFrom P before (e ∷ es) = P before e × EachFrom P (before ++ e ∷ []) es

-- the fact holds of each entry of a journal and the journal before it
abbrev pub EachEntry : (List Entry → Entry → Type 0) → List Entry → Type 0
EachEntry P journal = EachFrom P [] journal

-- P at each moment: of each beginning of the journal
abbrev pub EachMoment : (List Entry → Type 0) → List Entry → Type 0
EachMoment P journal = P [] × EachEntry (λ before e. P (before ++ e ∷ [])) journal

-- each queue hands over what was put, once and in order, and each call is in discipline
abbrev pub LegalJournal : Hostiles → History → List QueueRow → List Entry → Type 0
LegalJournal hostile history rows journal = EachEntry (LegalEntry hostile history rows) journal

-- the bell law of a queue: an entry that waits, or room that is waited for, is signalled or about
-- to be
pub record TrackHolds (row : QueueRow) (t : Track) : Type 0 where
  pub forward : BellHolds t.bells.forward (is_sent t) (length t.sent)
  pub backward : BellHolds t.bells.backward (is_open row t) (length t.taken)

-- the bell law of each queue with no hostile end
abbrev pub BellsHold : Hostiles → History → List QueueRow → List Entry → Type 0
BellsHold hostile history rows journal =
    (n : ℕ) (row : QueueRow) → slice_get rows n ≡ Some row → is_calm hostile row ≡ true
    → TrackHolds row (track history n journal)

-- what was taken is a beginning of what was put, and at most the capacity behind it
pub record Flows (row : QueueRow) (t : Track) : Type 0 where
  pub begins : IsPrefix t.taken t.sent
  pub within : length t.sent ≤ length t.taken + row.capacity

-- at every queue, also one with a hostile end, what was taken is a beginning of what was put, and
-- at most the capacity behind it
abbrev pub QueuesFlow : History → List QueueRow → List Entry → Type 0
QueuesFlow history rows journal = (n : ℕ) (row : QueueRow) → slice_get rows n ≡ Some row
    → Flows row (track history n journal)

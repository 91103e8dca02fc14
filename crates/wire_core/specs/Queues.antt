-- A queue with its two bells and its index words, and what each call does to it.
use Rattle.std.specs.Prelude.{◌≡◌, ◌==◌, ◌%◌, ◌+◌, ◌-◌, ◌&&◌, ◌||◌, ℕ, Bool, true, false, not}
use Rattle.std.specs.Prelude.{nat_lt, nat_le, ◌<◌, List, [], ◌∷◌, ◌++◌, length, drop, map}
use Rattle.std.specs.Prelude.{slice_index_or, slice_set}
use Rattle.std.specs.Option.{option_to_list}
use Rattle.std.specs.List.{list_any}
use Rattle.cargo_core.specs.declared.item.Item.{Item}
use Rattle.cargo_core.specs.declared.item.QueueKind.{QueueKind}
use Rattle.cargo_core.specs.declared.item.QueueKind.TheVariants as Kind
use Rattle.cargo_core.specs.Items.{kind_of}
use Rattle.wire_core.specs.declared.names.QueueRow.{QueueRow}
use Rattle.wire_core.specs.declared.names.BellState.{BellState}
use Rattle.wire_core.specs.declared.names.Side.{Side}
use Rattle.wire_core.specs.declared.names.Side.TheVariants.{Forward, Backward}
use Rattle.cargo_core.specs.declared.act.Word.{Word}
use Rattle.cargo_core.specs.declared.act.Word.TheVariants as Words
use Rattle.wire_core.specs.declared.names.Op.{Op}
use Rattle.wire_core.specs.declared.names.Op.TheVariants as Do
use Rattle.wire_core.specs.declared.names.Answer.{Answer}
use Rattle.wire_core.specs.declared.names.Answer.TheVariants.{Done, Yes, No}
use Rattle.wire_core.specs.declared.names.Waiter.TheVariants as Wait
use Rattle.wire_core.specs.declared.names.Ringer.TheVariants as Rung
use Rattle.wire_core.specs.Deeds.{Deed, Cargo, cargo_of, answer_of}
use Rattle.wire_core.specs.Ends.{Role, Consumer, Producer, End, Condition, role_of, is_yes}
use Rattle.wire_core.specs.Ends.{looked_waiter, wanted_ringer}

-- the two bells of a queue, and whether the last look of each end answered yes and isn't used
pub record Bells : Type 0 where
  pub forward : BellState
  pub backward : BellState
  pub seen : Bool
  pub roomed : Bool

-- the index words of a queue, and how many entries its two ends themselves count, all by 16 bits;
-- and whether a word was stored there by a call of its own since the queue was made
pub record Indices : Type 0 where
  pub head : ℕ
  pub tail : ℕ
  pub taken : ℕ
  pub sent : ℕ
  pub stored : Bool

-- a queue: what it carries, how many entries it holds at most, the actors at its ends, what stands
-- in it, and its bells
pub record Queue : Type 0 where
  pub kind : QueueKind
  pub capacity : ℕ
  pub producer : ℕ
  pub consumer : ℕ
  pub entries : List Cargo
  pub bells : Bells
  pub indices : Indices

-- the forward bell at the start: the consumer is busy and would be notified
abbrev pub start_forward : BellState
start_forward = record { flag = false; pending = false; waiter = Wait.Busy; ringer = Rung.Free }

-- the backward bell at the start: the producer is off and wants no notification
abbrev pub start_backward : BellState
start_backward = record { flag = true; pending = false; waiter = Wait.Off; ringer = Rung.Free }

-- both bells at the start, and no look
abbrev pub start_bells : Bells
start_bells = record {
  forward = start_forward;
  backward = start_backward;
  seen = false;
  roomed = false;
}

-- the index words at the start: nothing was put or taken, and no word stored
abbrev pub start_indices : Indices
start_indices = record { head = 0; tail = 0; taken = 0; sent = 0; stored = false }

-- the queue of a row in its start state
abbrev pub start_queue : QueueRow → Queue
start_queue row = record {
  kind = row.kind;
  capacity = row.capacity;
  producer = row.producer.0;
  consumer = row.consumer.0;
  entries = [];
  bells = start_bells;
  indices = start_indices;
}

-- what an end's owner knows of it
abbrev pub end_of : Bool → QueueKind → Bells → Role → End
end_of mine k b Consumer = record {
  owned = mine;
  kind = k;
  waiter = b.forward.waiter;
  ringer = b.backward.ringer;
  looked = b.seen;
}
end_of mine k b Producer = record {
  owned = mine;
  kind = k;
  waiter = b.backward.waiter;
  ringer = b.forward.ringer;
  looked = b.roomed;
}

-- the bell of a side
abbrev pub bell_of : Bells → Side → BellState
bell_of b Forward = b.forward
bell_of b Backward = b.backward

-- the bells, with another one on a side
abbrev pub with_bell : Bells → Side → BellState → Bells
with_bell b Forward x = record b { forward = x }
with_bell b Backward x = record b { backward = x }

-- a bell after a wake with this answer
abbrev pub waked : BellState → Answer → BellState
waked b Yes = record b { pending = false; waiter = Wait.Busy }
waked b No = b
waked b Done = b

-- the call is a store of a word
abbrev pub is_store : Op → Bool
is_store (Do.Store w v) = true
is_store Do.See = false
is_store Do.Room = false
is_store Do.Take = false
is_store Do.Put = false
is_store (Do.Ask s) = false
is_store (Do.Waive s) = false
is_store (Do.Wake s) = false
is_store (Do.Wanted s) = false
is_store (Do.Settle s) = false
is_store (Do.Ring s) = false

-- a store to a flag or a pending word; it changes no waiter, no ringer and no look
abbrev pub stored_bells : Bells → Word → Bool → Bells
stored_bells b Words.Head x = b
stored_bells b Words.Tail x = b
stored_bells b Words.Flag x = with_bell b Forward (record b.forward { flag = x })
stored_bells b Words.FlagBack x = with_bell b Backward (record b.backward { flag = x })
stored_bells b Words.Pending x = with_bell b Forward (record b.forward { pending = x })
stored_bells b Words.PendingBack x = with_bell b Backward (record b.backward { pending = x })

-- what a call does to the bells and looks
abbrev pub bells_after : Bells → Op → Answer → Bells
bells_after b Do.See a = record b {
  forward = record b.forward { waiter = looked_waiter b.forward.waiter a };
  seen = is_yes a;
}
bells_after b Do.Room a = record b {
  backward = record b.backward { waiter = looked_waiter b.backward.waiter a };
  roomed = is_yes a;
}
bells_after b Do.Take a = record b {
  seen = false;
  backward = record b.backward { ringer = Rung.Put };
}
bells_after b Do.Put a = record b {
  roomed = false;
  forward = record b.forward { ringer = Rung.Put };
}
bells_after b (Do.Ask s) a = with_bell b s
    (record (bell_of b s) { flag = false; waiter = Wait.Asked })
bells_after b (Do.Waive s) a = with_bell b s
    (record (bell_of b s) { flag = true; waiter = Wait.Off })
bells_after b (Do.Wake s) a = with_bell b s (waked (bell_of b s) a)
bells_after b (Do.Wanted s) a = with_bell b s (record (bell_of b s) { ringer = wanted_ringer a })
bells_after b (Do.Settle s) a = with_bell b s
    (record (bell_of b s) { flag = true; ringer = Rung.Ringing })
bells_after b (Do.Ring s) a = with_bell b s
    (record (bell_of b s) { pending = true; ringer = Rung.Free })
bells_after b (Do.Store w v) a = stored_bells b w (v % 2 == 1)

-- what a call does to what stands in the queue
abbrev pub entries_after : List Cargo → Op → List Cargo → List Cargo
entries_after es Do.Take c = drop 1 es
entries_after es Do.Put c = es ++ c
entries_after es Do.See c = es
entries_after es Do.Room c = es
entries_after es (Do.Ask s) c = es
entries_after es (Do.Waive s) c = es
entries_after es (Do.Wake s) c = es
entries_after es (Do.Wanted s) c = es
entries_after es (Do.Settle s) c = es
entries_after es (Do.Ring s) c = es
entries_after es (Do.Store w v) c = es

-- the index one entry further
abbrev pub next_index : ℕ → ℕ
next_index n = (n + 1) % 65536

-- a store of a word of the indices, or of another word
abbrev pub stored_index : Indices → Word → ℕ → Indices
stored_index x Words.Head v = record x { head = v; stored = true }
stored_index x Words.Tail v = record x { tail = v; stored = true }
stored_index x Words.Flag v = record x { stored = true }
stored_index x Words.FlagBack v = record x { stored = true }
stored_index x Words.Pending v = record x { stored = true }
stored_index x Words.PendingBack v = record x { stored = true }

-- what a call does to the indices: a take and a put store their own word
abbrev pub indices_after : Indices → Op → Indices
indices_after x Do.Take = record x { taken = next_index x.taken; head = next_index x.taken }
indices_after x Do.Put = record x { sent = next_index x.sent; tail = next_index x.sent }
indices_after x Do.See = x
indices_after x Do.Room = x
indices_after x (Do.Ask s) = x
indices_after x (Do.Waive s) = x
indices_after x (Do.Wake s) = x
indices_after x (Do.Wanted s) = x
indices_after x (Do.Settle s) = x
indices_after x (Do.Ring s) = x
indices_after x (Do.Store w v) = stored_index x w (v % 65536)

-- how far it is from one index up to another
abbrev pub ahead : ℕ → ℕ → ℕ
ahead head tail = (tail + (65536 - head)) % 65536

-- the queue after a call
abbrev pub queue_after : Queue → Op → Answer → List Cargo → Queue
queue_after q o a c = record {
  kind = q.kind;
  capacity = q.capacity;
  producer = q.producer;
  consumer = q.consumer;
  entries = entries_after q.entries o c;
  bells = bells_after q.bells o a;
  indices = indices_after q.indices o;
}

-- a queue after one call
abbrev pub after : Queue → Deed → Queue
after q d = queue_after q d.event.op d.event.answer (cargo_of d)

-- what a call answers, where an entry stands there or not, and where there is room or not
abbrev pub Tells : (filled room : Bool) → Bells → Op → Answer → Type 0
Tells filled room b Do.See a = a ≡ answer_of filled
Tells filled room b Do.Room a = a ≡ answer_of room
Tells filled room b Do.Take a = (a ≡ Done) × (filled ≡ true)
Tells filled room b Do.Put a = (a ≡ Done) × (room ≡ true)
Tells filled room b (Do.Ask s) a = a ≡ Done
Tells filled room b (Do.Waive s) a = a ≡ Done
Tells filled room b (Do.Wake s) a = a ≡ answer_of (bell_of b s).pending
Tells filled room b (Do.Wanted s) a = a ≡ answer_of (not (bell_of b s).flag)
Tells filled room b (Do.Settle s) a = a ≡ Done
Tells filled room b (Do.Ring s) a = a ≡ Done
-- on such a queue nobody stores
Tells filled room b (Do.Store w v) a = ⊥

-- an entry stands in the queue
abbrev pub is_filled : Queue → Bool
is_filled q = nat_lt 0 (length q.entries)

-- fewer entries stand in the queue than its capacity
abbrev pub has_room : Queue → Bool
has_room q = nat_lt (length q.entries) q.capacity

-- a take comes only where an entry stands there, and a put only where there is room; and a look
-- answers yes only so
abbrev pub Finds : (filled room : Bool) → Op → Answer → Type 0
Finds filled room Do.Take a = filled ≡ true
Finds filled room Do.Put a = room ≡ true
Finds filled room Do.See a = a ≡ Yes → filled ≡ true
Finds filled room Do.Room a = a ≡ Yes → room ≡ true
Finds filled room (Do.Ask s) a = Unit {0}
Finds filled room (Do.Waive s) a = Unit {0}
Finds filled room (Do.Wake s) a = Unit {0}
Finds filled room (Do.Wanted s) a = Unit {0}
Finds filled room (Do.Settle s) a = Unit {0}
Finds filled room (Do.Ring s) a = Unit {0}
Finds filled room (Do.Store w v) a = Unit {0}

-- what a look for an entry answers: whether one stands there; once a word was stored, only where
-- the difference of the tail that it reads to what the consumer itself took fits too
abbrev pub sees : Queue → Bool
sees q = is_filled q && (not q.indices.stored
    || (nat_lt 0 (ahead q.indices.taken q.indices.tail)
    && nat_le (ahead q.indices.taken q.indices.tail) q.capacity))

-- what a look for room answers: whether there is some; once a word was stored, only where the
-- difference of what the producer itself put to the head that it reads fits too
abbrev pub finds_room : Queue → Bool
finds_room q = has_room q && (not q.indices.stored
    || nat_lt (ahead q.indices.head q.indices.sent) q.capacity)

-- what a call answers, where looks answer so
abbrev pub Answers : (filled room seen roomed : Bool) → Bells → Op → Answer → Type 0
Answers filled room seen roomed b Do.See a = a ≡ answer_of seen
Answers filled room seen roomed b Do.Room a = a ≡ answer_of roomed
Answers filled room seen roomed b Do.Take a = (a ≡ Done) × (filled ≡ true)
Answers filled room seen roomed b Do.Put a = (a ≡ Done) × (room ≡ true)
Answers filled room seen roomed b (Do.Ask s) a = a ≡ Done
Answers filled room seen roomed b (Do.Waive s) a = a ≡ Done
Answers filled room seen roomed b (Do.Wake s) a = a ≡ answer_of (bell_of b s).pending
Answers filled room seen roomed b (Do.Wanted s) a = a ≡ answer_of (not (bell_of b s).flag)
Answers filled room seen roomed b (Do.Settle s) a = a ≡ Done
Answers filled room seen roomed b (Do.Ring s) a = a ≡ Done
Answers filled room seen roomed b (Do.Store w v) a = a ≡ Done

-- what a call moves: a take the first entry, a put one of the queue's kind, another call none
abbrev pub Carries : Queue → Op → List Cargo → Type 0
Carries q Do.Take c = (first : Cargo) × (c ≡ first ∷ []) × (q.entries ≡ first ∷ drop 1 q.entries)
Carries q Do.Put c = (last : Cargo) × (c ≡ last ∷ []) × (kind_of last.0 ≡ q.kind)
Carries q Do.See c = c ≡ []
Carries q Do.Room c = c ≡ []
Carries q (Do.Ask s) c = c ≡ []
Carries q (Do.Waive s) c = c ≡ []
Carries q (Do.Wake s) c = c ≡ []
Carries q (Do.Wanted s) c = c ≡ []
Carries q (Do.Settle s) c = c ≡ []
Carries q (Do.Ring s) c = c ≡ []
Carries q (Do.Store w v) c = c ≡ []

-- the items of entries
abbrev pub items_of : List Cargo → List Item
items_of cs = map (λ c. c.0) cs

-- the call may come here, and answers and moves what it does
pub record May (q : Queue) (d : Deed) : Type 0 where
  pub condition : Condition (end_of true q.kind q.bells (role_of d.event.op)) d.event.op
  pub tells : Answers (is_filled q) (has_room q) (sees q) (finds_room q) q.bells
      d.event.op d.event.answer
  pub carries : Carries q d.event.op (cargo_of d)
  pub item : option_to_list d.event.item ≡ items_of (cargo_of d)

-- stands for a queue that is not there
abbrev pub no_queue : Queue
no_queue = record {
  kind = Kind.Byte;
  capacity = 0;
  producer = 0;
  consumer = 0;
  entries = [];
  bells = start_bells;
  indices = start_indices;
}

-- the queue at a place of the table
abbrev pub queue_at : List Queue → ℕ → Queue
queue_at w n = slice_index_or w n no_queue

-- what is known of an end
abbrev pub end_at : List Queue → Role → ℕ → End
end_at w r n = end_of (nat_lt n (length w)) (queue_at w n).kind (queue_at w n).bells r

-- one call on one of the queues
pub record Happens (old : List Queue) (d : Deed) (new : List Queue) : Type 0 where
  pub there : d.event.queue.0 < length old
  pub may : May (queue_at old d.event.queue.0) d
  pub after_is : new ≡ slice_set old d.event.queue.0 (after (queue_at old d.event.queue.0) d)

-- every queue in its start state
abbrev pub starts : List QueueRow → List Queue
starts rows = map start_queue rows

-- a pending word of one of this actor's waiters is 1, at a queue of these owners
abbrev pub calls : ℕ → ℕ → ℕ → Bells → Bool
calls actor producer consumer b = (consumer == actor && b.forward.pending)
    || (producer == actor && b.backward.pending)

-- a waiter of this actor at the queue has a notification pending
abbrev pub is_called : ℕ → Queue → Bool
is_called actor q = calls actor q.producer q.consumer q.bells

-- the same of any of the queues
abbrev pub is_pending : ℕ → List Queue → Bool
is_pending actor w = list_any (is_called actor) w

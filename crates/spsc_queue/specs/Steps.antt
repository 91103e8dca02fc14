-- What each step on a ring tells.
use Rattle.std.specs.Prelude.{◌≡◌, ◌≢◌, ℕ, ◌+◌, ◌-◌, ◌%◌, ◌<◌, Bool, true, false, not, ◌||◌}
use Rattle.std.specs.Prelude.{List, [], ◌∷◌, ◌++◌, length, Option, Some, None, nat_eq, nat_lt}
use Rattle.std.specs.Prelude.{is_some, if◌then◌else◌, ◌&&◌, nat_le}
use Rattle.atomic_table.specs.Table.{Me, Step}
use Rattle.cargo_core.specs.declared.item.QueueKind.{QueueKind}
use Rattle.cargo_core.specs.Items.{kind_of}
use Rattle.wire_core.specs.declared.names.Op.{Op}
use Rattle.wire_core.specs.declared.names.Op.TheVariants as Do
use Rattle.wire_core.specs.declared.names.Answer.{Answer}
use Rattle.wire_core.specs.declared.names.Answer.TheVariants.{Done, No}
use Rattle.wire_core.specs.declared.names.Ringer.TheVariants as Rung
use Rattle.wire_core.specs.declared.names.Waiter.TheVariants as Wait
use Rattle.wire_core.specs.Deeds.{Cargo, answer_of}
use Rattle.wire_core.specs.Ends.{End, looked_waiter, woken_waiter, wanted_ringer}
use Rattle.wire_core.specs.Queues.{ahead}
use Rattle.spsc_queue.specs.declared.view.Half.{Half}
use Rattle.spsc_queue.specs.declared.view.View.{View}
use Rattle.spsc_queue.specs.Rule.{Slot, wrap, head_word, tail_word, flag_word, pending_word}
use Rattle.spsc_queue.specs.Rule.{guard_word, place_of_word, stored_value, blank_view}

-- what a seat knows, and the slots that it holds
abbrev pub Seated : Type 0
Seated = Me Slot View

-- the slots that an end holds
abbrev pub slots_held : Option Slot → ℕ → List (ℕ × Slot)
slots_held None k = []
slots_held (Some y) k = (k, y) ∷ []

-- Whether there is room where the head is this. The queue is full where the tail is n ahead of it.
abbrev pub tells_room : ℕ → ℕ → ℕ → Bool
tells_room n sent head = not (nat_eq (wrap (head + n)) (wrap sent))

-- for how many entries there is room then
abbrev pub room_ahead : ℕ → ℕ → ℕ → ℕ
room_ahead n sent head = (wrap head + n + (65536 - wrap sent)) % 65536

-- whether an entry stands there where the tail is this
abbrev pub tells_entry : ℕ → ℕ → Bool
tells_entry taken tail = not (nat_eq tail (wrap taken))

-- the value of the last of these steps
abbrev pub last_of : List (ℕ × ℕ) → ℕ
last_of [] = 0
last_of (s ∷ ss) = s.1

-- how many stand there then
abbrev pub entries_ahead : ℕ → ℕ → ℕ
entries_ahead taken tail = (wrap tail + (65536 - wrap taken)) % 65536

-- the word of the last of them
abbrev pub last_place : List (ℕ × ℕ) → ℕ
last_place [] = 0
last_place (s ∷ ss) = s.0

-- the word of the last step
abbrev pub last_word : Half → ℕ
last_word h = last_place h.walked

-- what the last step on a word read or stored there
abbrev pub last_value : Half → ℕ
last_value h = last_of h.walked

-- how many steps on words its calls made
abbrev pub steps_made : Half → ℕ
steps_made h = length h.walked

-- a no is counted
abbrev pub noes_more : Bool → ℕ → ℕ
noes_more true n = n
noes_more false n = n + 1

-- whether the end may still move an entry by what it last read of the other end's index
abbrev pub knows_one : Half → Bool
knows_one h = nat_lt 0 h.ahead

-- the end after a look at the word w, which held r, by which it may move k entries
abbrev pub after_look : Bool → ℕ → ℕ → Option Slot → ℕ → Half → Half
after_look b w r g k h = record h {
  waiter = looked_waiter h.waiter (answer_of b);
  grant = g;
  noes = noes_more b h.noes;
  ahead = k;
  walked = (w, r) ∷ h.walked;
}

-- an empty slot is granted where the look answers yes
abbrev pub empty_if : Bool → Option Slot
empty_if true = Some None
empty_if false = None

-- what a seat knows, with the producer as it is now
abbrev pub with_producer : View → Half → View
with_producer v h = record v { producer = h }

-- what a seat knows, with the consumer as it is now
abbrev pub with_consumer : View → Half → View
with_consumer v h = record v { consumer = h }

-- the producer after it read the head r at the word w
abbrev pub room_read : ℕ → Half → ℕ → ℕ → Half
room_read n h w r = after_look (tells_room n (length h.entries) r) w r
    (empty_if (tells_room n (length h.entries) r)) (room_ahead n (length h.entries) r) h

-- the producer after a look for which it needs no head
abbrev pub room_kept : Half → ℕ → ℕ → Half
room_kept h w r = after_look true w r (Some None) h.ahead h

-- the step of `room` where it knows of no room: a load of the head, which grants the slot at the
-- tail where it answers yes
abbrev pub room_done : Step Slot → Seated → ℕ → Seated → Type 0
room_done st m r m' = (r < 65536)
    × (m'.0 ≡ with_producer m.0 (room_read st.slots m.0.producer st.word r))
    × (m'.1 ≡ slots_held m'.0.producer.grant (length m.0.producer.entries % st.slots))

-- where it knows of some: a load of its own index, which grants the slot too
abbrev pub room_again : Step Slot → Seated → ℕ → Seated → Type 0
room_again st m r m' = (m'.0 ≡ with_producer m.0 (room_kept m.0.producer st.word r))
    × (m'.1 ≡ slots_held (Some None) (length m.0.producer.entries % st.slots))

-- what `room` answers where its step read r
abbrev pub room_answer : ℕ → Half → ℕ → Bool
room_answer n h r = knows_one h || tells_room n (length h.entries) r

-- the producer after a look for room whose step read r: at its own index where it knows of room,
-- and else at the head
abbrev pub room_told : ℕ → Half → ℕ → Half
room_told n h r = after_look (room_answer n h r) (if knows_one h then tail_word else head_word) r
    (empty_if (room_answer n h r))
    (if knows_one h then h.ahead else room_ahead n (length h.entries) r) h

-- the producer after a put at a time, where r was stored at the word w
abbrev pub sent_one : Cargo → ℕ → ℕ → ℕ → Half → Half
sent_one x t w r h = record h {
  entries = h.entries ++ x ∷ [];
  times = h.times ++ t ∷ [];
  ringer = Rung.Put;
  grant = None;
  ahead = h.ahead - 1;
  walked = (w, r) ∷ h.walked;
}

-- the step of `put` at a time, at which the granted slot goes home filled: a store to the tail, or
-- on a wild ring to the guard
abbrev pub put_done : ℕ → Step Slot → Seated → ℕ → Seated → Type 0
put_done t st m r m' = (x : Cargo) → m.1 ≡ (length m.0.producer.entries % st.slots, Some x) ∷ []
    → (m'.0 ≡ with_producer m.0 (sent_one x t st.word r m.0.producer)) × (m'.1 ≡ [])

-- what `see` may grant: nothing where it answers no, and else an entry of the kind
abbrev pub Granted : QueueKind → Bool → Option Slot → Type 0
Granted kind true g = (x : Cargo) × (g ≡ Some (Some x)) × (kind_of x.0 ≡ kind)
Granted kind false g = g ≡ None

-- what the consumer was granted is an entry of the kind
abbrev pub GrantedKind : QueueKind → Option Slot → Type 0
GrantedKind kind g = (g ≢ Some None) × ((x : Cargo) → g ≡ Some (Some x) → kind_of x.0 ≡ kind)

-- the consumer after it read the tail r at the word w
abbrev pub see_read : Option Slot → Half → ℕ → ℕ → Half
see_read g h w r = after_look (tells_entry (length h.entries) r) w r g
    (entries_ahead (length h.entries) r) h

-- the consumer after a look for which it needs no tail
abbrev pub see_kept : Option Slot → Half → ℕ → ℕ → Half
see_kept g h w r = after_look true w r g h.ahead h

-- the step of `see` where it knows of no entry: a load of the tail, which grants the slot at the
-- head where it answers yes
abbrev pub see_done : Step Slot → Seated → ℕ → Seated → Type 0
see_done st m r m' = (g : Option Slot)
    × Granted m.0.consumer.kind (tells_entry (length m.0.consumer.entries) r) g
    × (m'.0 ≡ with_consumer m.0 (see_read g m.0.consumer st.word r))
    × (m'.1 ≡ slots_held g (length m.0.consumer.entries % st.slots))

-- where it knows of one: a load of its own index, which grants the slot too
abbrev pub see_again : Step Slot → Seated → ℕ → Seated → Type 0
see_again st m r m' = (g : Option Slot) × Granted m.0.consumer.kind true g
    × (m'.0 ≡ with_consumer m.0 (see_kept g m.0.consumer st.word r))
    × (m'.1 ≡ slots_held g (length m.0.consumer.entries % st.slots))

-- what `see` answers where its step read r
abbrev pub see_answer : Half → ℕ → Bool
see_answer h r = knows_one h || tells_entry (length h.entries) r

-- the consumer after a look for an entry whose step read r: at its own index where it knows of one,
-- and else at the tail
abbrev pub see_told : Option Slot → Half → ℕ → Half
see_told g h r = after_look (see_answer h r) (if knows_one h then head_word else tail_word) r g
    (if knows_one h then h.ahead else entries_ahead (length h.entries) r) h

-- the consumer after it took what was put at a time, where r was stored at the word w
abbrev pub took_one : Cargo → ℕ → ℕ → ℕ → Half → Half
took_one x t w r h = record h {
  entries = h.entries ++ x ∷ [];
  times = h.times ++ t ∷ [];
  ringer = Rung.Put;
  grant = None;
  ahead = h.ahead - 1;
  walked = (w, r) ∷ h.walked;
}

-- the step of `take`, at which the granted slot goes home empty: a store to the head, or on a wild
-- ring to the guard
abbrev pub take_done : Step Slot → Seated → ℕ → Seated → Type 0
take_done st m r m' = (x : Cargo) → m.0.consumer.grant ≡ Some (Some x)
    → (t : ℕ) × (m'.0 ≡ with_consumer m.0 (took_one x t st.word r m.0.consumer)) × (m'.1 ≡ [])

-- one step more on a word, and nothing else
abbrev pub passed : ℕ → ℕ → Half → Half
passed w r h = record h { walked = (w, r) ∷ h.walked }

-- Whether the tail that the consumer of a wild ring read tells of an entry. One that is further
-- ahead than the capacity was stored by a neighbour that keeps no rule.
abbrev pub fits_entry : ℕ → ℕ → ℕ → Bool
fits_entry n taken tail = nat_lt 0 (ahead (wrap taken) (wrap tail))
    && nat_le (ahead (wrap taken) (wrap tail)) n

-- whether the head that its producer read tells of room
abbrev pub fits_room : ℕ → ℕ → ℕ → Bool
fits_room n sent head = nat_lt (ahead (wrap head) (wrap sent)) n

-- An end of a wild ring after it read the other end's index: where that fits, the guard is looked
-- at next, and where it doesn't, the look is over with no, and a granted slot goes home.
abbrev pub index_read : Bool → ℕ → ℕ → Half → Half
index_read true w r h = passed w r h
index_read false w r h = after_look false w r None h.ahead h

-- the slots that it holds then
abbrev pub slots_kept : Bool → List (ℕ × Slot) → List (ℕ × Slot)
slots_kept true m = m
slots_kept false m = []

-- the first step of `see` on a wild ring: a load of the tail
abbrev pub tail_read : Step Slot → Seated → ℕ → Seated → Type 0
tail_read st m r m' = (m'.0 ≡ with_consumer m.0 (index_read
    (fits_entry st.slots (length m.0.consumer.entries) r) st.word r m.0.consumer))
    × (m'.1 ≡ slots_kept (fits_entry st.slots (length m.0.consumer.entries) r) m.1)

-- the second: a load of the guard at its own place, which grants the slot where it is 1
abbrev pub entry_guard_read : Step Slot → Seated → ℕ → Seated → Type 0
entry_guard_read st m r m' = (g : Option Slot) × Granted m.0.consumer.kind (nat_eq r 1) g
    × (m'.0 ≡ with_consumer m.0
    (after_look (nat_eq r 1) st.word r g m.0.consumer.ahead m.0.consumer))
    × (m'.1 ≡ slots_held g (length m.0.consumer.entries % st.slots))

-- the first step of `room` on a wild ring: a load of the head
abbrev pub head_read : Step Slot → Seated → ℕ → Seated → Type 0
head_read st m r m' = (m'.0 ≡ with_producer m.0 (index_read
    (fits_room st.slots (length m.0.producer.entries) r) st.word r m.0.producer))
    × (m'.1 ≡ slots_kept (fits_room st.slots (length m.0.producer.entries) r) m.1)

-- the second: a load of the guard at its own place, which grants the slot where it is 0
abbrev pub room_guard_read : Step Slot → Seated → ℕ → Seated → Type 0
room_guard_read st m r m' = (m'.0 ≡ with_producer m.0 (after_look (nat_eq r 0) st.word r
    (empty_if (nat_eq r 0)) m.0.producer.ahead m.0.producer))
    × (m'.1 ≡ slots_held (empty_if (nat_eq r 0)) (length m.0.producer.entries % st.slots))

-- a store to one of the six words of a wild ring, of which its rule says nothing
abbrev pub producer_passed : Step Slot → Seated → ℕ → Seated → Type 0
producer_passed st m r m' = (m'.0 ≡ with_producer m.0 (passed st.word r m.0.producer))
    × (m'.1 ≡ m.1) × (m.0.producer.wild ≡ true)

-- the same of the consumer
abbrev pub consumer_passed : Step Slot → Seated → ℕ → Seated → Type 0
consumer_passed st m r m' = (m'.0 ≡ with_consumer m.0 (passed st.word r m.0.consumer))
    × (m'.1 ≡ m.1) × (m.0.consumer.wild ≡ true)

-- A step that leaves the slots alone: the end is told the word, and what was read or stored there.
abbrev pub producer_turned : (ℕ → ℕ → Half → Half) → Step Slot → Seated → ℕ → Seated → Type 0
producer_turned f st m r m' = (m'.0 ≡ with_producer m.0 (f st.word r m.0.producer)) × (m'.1 ≡ m.1)

-- the same of the consumer
abbrev pub consumer_turned : (ℕ → ℕ → Half → Half) → Step Slot → Seated → ℕ → Seated → Type 0
consumer_turned f st m r m' = (m'.0 ≡ with_consumer m.0 (f st.word r m.0.consumer)) × (m'.1 ≡ m.1)

-- the waiter after a store of a wish to its flag
abbrev pub asked : ℕ → ℕ → Half → Half
asked w r h = record h {
  waiter = Wait.Asked;
  wishes = true;
  asks = h.asks + 1;
  walked = (w, r) ∷ h.walked;
}

-- the waiter after it stored to its flag that it wants no notification
abbrev pub waived : ℕ → ℕ → Half → Half
waived w r h = record h { waiter = Wait.Off; wishes = false; walked = (w, r) ∷ h.walked }

-- the waiter after it took what was pending, where k notifications had been made for it
abbrev pub after_wake : ℕ → ℕ → ℕ → Half → Half
after_wake w r k h = record h {
  waiter = woken_waiter h.waiter (answer_of (nat_eq r 1));
  woken = k;
  walked = (w, r) ∷ h.walked;
}

-- the ringer after a look at the flag
abbrev pub after_wanted : ℕ → ℕ → Half → Half
after_wanted w r h = record h {
  ringer = wanted_ringer (answer_of (nat_eq r 0));
  walked = (w, r) ∷ h.walked;
}

-- the ringer after it took the wish back, where the waiter had stored k wishes
abbrev pub after_settle : ℕ → ℕ → ℕ → Half → Half
after_settle w r k h = record h {
  ringer = Rung.Ringing;
  settled = k;
  walked = (w, r) ∷ h.walked;
}

-- the ringer after a notification
abbrev pub after_ring : ℕ → ℕ → Half → Half
after_ring w r h = record h {
  ringer = Rung.Free;
  rings = h.rings + 1;
  walked = (w, r) ∷ h.walked;
}

-- something was pending just where notifications were made since the last time; on a wild ring it
-- is as it was stored
abbrev pub IsWoken : ℕ → Half → Half → Type 0
IsWoken r h h' = h.wild ≡ false → nat_eq r 1 ≡ nat_lt h.woken h'.woken

-- the producer takes what is pending, and is told how many notifications were made
abbrev pub producer_woken : Step Slot → Seated → ℕ → Seated → Type 0
producer_woken st m r m' =
    (m'.0 ≡ with_producer m.0 (after_wake st.word r m'.0.producer.woken m.0.producer))
    × (m'.1 ≡ m.1) × IsWoken r m.0.producer m'.0.producer

-- the same of the consumer
abbrev pub consumer_woken : Step Slot → Seated → ℕ → Seated → Type 0
consumer_woken st m r m' =
    (m'.0 ≡ with_consumer m.0 (after_wake st.word r m'.0.consumer.woken m.0.consumer))
    × (m'.1 ≡ m.1) × IsWoken r m.0.consumer m'.0.consumer

-- the producer takes a wish back, and is told how many were stored
abbrev pub producer_settled : Step Slot → Seated → ℕ → Seated → Type 0
producer_settled st m r m' =
    (m'.0 ≡ with_producer m.0 (after_settle st.word r m'.0.producer.settled m.0.producer))
    × (m'.1 ≡ m.1)

-- the same of the consumer
abbrev pub consumer_settled : Step Slot → Seated → ℕ → Seated → Type 0
consumer_settled st m r m' =
    (m'.0 ≡ with_consumer m.0 (after_settle st.word r m'.0.consumer.settled m.0.consumer))
    × (m'.1 ≡ m.1)

-- a granted slot goes home as it was
abbrev pub sent_home : Half → Half
sent_home h = record h { grant = None }

-- the load at the end by which a granted slot of the producer goes home
abbrev pub producer_home : Step Slot → Seated → ℕ → Seated → Type 0
producer_home st m r m' = (m'.0 ≡ with_producer m.0 (sent_home m.0.producer)) × (m'.1 ≡ [])

-- the same of the consumer
abbrev pub consumer_home : Step Slot → Seated → ℕ → Seated → Type 0
consumer_home st m r m' = (m'.0 ≡ with_consumer m.0 (sent_home m.0.consumer)) × (m'.1 ≡ [])

-- how the first view is cut in two
abbrev pub producing_part : View → View
producing_part v = record v { consumes = false }

-- the part that a second seat gets
abbrev pub consuming_part : View → View
consuming_part v = record v { produces = false }

-- how the two are made one
abbrev pub whole : View → View → View
whole v w = record v { consumes = true; consumer = w.consumer }

-- it knows what v knows, and neither produces nor consumes
abbrev pub memory_of : View → View
memory_of v = record v { produces = false; consumes = false }

-- what is left of a seat that was joined
abbrev pub spent : View
spent = blank_view

-- what its owner knows of an end
abbrev pub known_end : Half → End
known_end h = record {
  owned = true;
  kind = h.kind;
  waiter = h.waiter;
  ringer = h.ringer;
  looked = is_some h.grant;
}

-- what `see` makes of the consumer of a wild ring that read the tail x, by whether that fits, and
-- where it does, read r at the guard of its place
abbrev pub EntryTold : (fits : Bool) → ℕ → Half → (x r : ℕ) → Answer → Half → Type 0
EntryTold false n h x r a h' = (h' ≡ index_read false tail_word x h) × (a ≡ No)
EntryTold true n h x r a h' = (h' ≡ after_look (nat_eq r 1) (guard_word n (length h.entries)) r
    h'.grant h.ahead (passed tail_word x h))
    × (a ≡ answer_of (nat_eq r 1)) × Granted h.kind (nat_eq r 1) h'.grant

-- the same of `room` and the head x
abbrev pub RoomTold : (fits : Bool) → ℕ → Half → (x r : ℕ) → Answer → Half → Type 0
RoomTold false n h x r a h' = (h' ≡ index_read false head_word x h) × (a ≡ No)
RoomTold true n h x r a h' = (h' ≡ after_look (nat_eq r 0) (guard_word n (length h.entries)) r
    (empty_if (nat_eq r 0)) h.ahead (passed head_word x h)) × (a ≡ answer_of (nat_eq r 0))

-- what `see` makes of what the consumer knows, on a ring of this sort of n places, where its last
-- step read r
abbrev pub SeeDid : (wild : Bool) → ℕ → Half → ℕ → Answer → List Cargo → Half → Type 0
SeeDid false n h r a c h' = (h' ≡ see_told h'.grant h r)
    × (a ≡ answer_of (see_answer h r)) × (c ≡ []) × Granted h.kind (see_answer h r) h'.grant
SeeDid true n h r a c h' = (x : ℕ) × (c ≡ [])
    × EntryTold (fits_entry n (length h.entries) x) n h x r a h'

-- what `room` makes of what the producer knows
abbrev pub RoomDid : (wild : Bool) → ℕ → Half → ℕ → Answer → List Cargo → Half → Type 0
RoomDid false n h r a c h' = (h' ≡ room_told n h r)
    × (a ≡ answer_of (room_answer n h r)) × (c ≡ [])
RoomDid true n h r a c h' = (x : ℕ) × (c ≡ [])
    × RoomTold (fits_room n (length h.entries) x) n h x r a h'

-- the consumer after it took what was put at a time: on a wild ring it stores to the guard before
-- it stores its index
abbrev pub took : (wild : Bool) → ℕ → Cargo → ℕ → Half → Half
took false n x t h = took_one x t head_word (wrap (length h.entries + 1)) h
took true n x t h = passed head_word (wrap (length h.entries + 1))
    (took_one x t (guard_word n (length h.entries)) 0 h)

-- the producer after a put at a time
abbrev pub sent : (wild : Bool) → ℕ → Cargo → ℕ → Half → Half
sent false n x t h = sent_one x t tail_word (wrap (length h.entries + 1)) h
sent true n x t h = passed tail_word (wrap (length h.entries + 1))
    (sent_one x t (guard_word n (length h.entries)) 1 h)

-- What one call makes of what an end knows, on a ring of n places, where its last step read r: the
-- answer, the entry that it moved, and what the end knows then. Each row has each step of the call,
-- with the word and what was read or stored there, and a look that answers no counts one no.
abbrev pub CallDid : ℕ → Half → Op → ℕ → Answer → List Cargo → Half → Type 0
CallDid n h Do.See r a c h' = SeeDid h.wild n h r a c h'
CallDid n h Do.Room r a c h' = RoomDid h.wild n h r a c h'
CallDid n h Do.Take r a c h' = (x : Cargo) × (t : ℕ) × (c ≡ x ∷ []) × (h.grant ≡ Some (Some x))
    × (h' ≡ took h.wild n x t h) × (a ≡ Done)
CallDid n h Do.Put r a c h' = (x : Cargo) × (t : ℕ) × (c ≡ x ∷ [])
    × (h' ≡ sent h.wild n x t h) × (a ≡ Done) × (kind_of x.0 ≡ h.kind)
CallDid n h (Do.Ask s) r a c h' = (h' ≡ asked (flag_word s) 0 h) × (a ≡ Done) × (c ≡ [])
CallDid n h (Do.Waive s) r a c h' = (h' ≡ waived (flag_word s) 1 h) × (a ≡ Done) × (c ≡ [])
CallDid n h (Do.Wake s) r a c h' = (h' ≡ after_wake (pending_word s) r h'.woken h)
    × (a ≡ answer_of (nat_eq r 1)) × (c ≡ []) × IsWoken r h h'
CallDid n h (Do.Wanted s) r a c h' = (h' ≡ after_wanted (flag_word s) r h)
    × (a ≡ answer_of (nat_eq r 0)) × (c ≡ [])
CallDid n h (Do.Settle s) r a c h' = (h' ≡ after_settle (flag_word s) 1 h'.settled h)
    × (a ≡ Done) × (c ≡ [])
CallDid n h (Do.Ring s) r a c h' = (h' ≡ after_ring (pending_word s) 1 h) × (a ≡ Done) × (c ≡ [])
CallDid n h (Do.Store w v) r a c h' = (h' ≡ passed (place_of_word w) (stored_value w v) h)
    × (a ≡ Done) × (c ≡ []) × (h.wild ≡ true)

-- the same, where what was read is what the end did last
abbrev pub EndDid : ℕ → Half → Op → Answer → List Cargo → Half → Type 0
EndDid n h o a c h' = CallDid n h o (last_value h') a c h'

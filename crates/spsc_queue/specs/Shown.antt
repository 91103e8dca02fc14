-- The queue that the words and the two ends show at a moment, and how a call goes on from there.
use Rattle.std.specs.Prelude.{◌≡◌, ℕ, ◌+◌, Bool, true, false, ◌&&◌, ◌||◌, List, length, drop}
use Rattle.std.specs.Prelude.{nat_eq, is_some, slice_index, slice_set, if◌then◌else◌}
use Rattle.cargo_core.specs.declared.item.QueueKind.{QueueKind}
use Rattle.wire_core.specs.declared.names.Op.{Op}
use Rattle.wire_core.specs.declared.names.Op.TheVariants as Do
use Rattle.wire_core.specs.declared.names.Side.TheVariants.{Forward, Backward}
use Rattle.wire_core.specs.declared.names.Answer.{Answer}
use Rattle.wire_core.specs.Deeds.{Cargo}
use Rattle.wire_core.specs.declared.names.Answer.TheVariants.{Done, Yes, No}
use Rattle.wire_core.specs.Ends.{Role, Consumer, Producer, role_of, end_after}
use Rattle.wire_core.specs.Queues.{Queue, Tells, Finds, Carries, is_filled, has_room}
use Rattle.wire_core.specs.Queues.{entries_after, queue_after}
use Rattle.spsc_queue.specs.declared.view.Half.{Half}
use Rattle.spsc_queue.specs.Rule.{wrap, head_word, tail_word, flag_word, pending_word}
use Rattle.spsc_queue.specs.Rule.{place_of_word, stored_value, forward_bell, backward_bell}
use Rattle.spsc_queue.specs.Steps.{knows_one, known_end, last_word, last_value}

-- whether a flag or pending word is 1
abbrev pub is_set : List ℕ → ℕ → Bool
is_set words w = nat_eq (slice_index words w) 1

-- the queue that the words and the two ends show; which actors they belong to a ring doesn't know,
-- so they are 0
abbrev pub ring_queue : QueueKind → ℕ → List ℕ → Half → Half → Queue
ring_queue kind n words p c = record {
  kind = kind;
  capacity = n;
  producer = 0;
  consumer = 0;
  entries = drop (length c.entries) p.entries;
  bells = record {
    forward = forward_bell (is_set words (flag_word Forward))
        (is_set words (pending_word Forward)) p c;
    backward = backward_bell (is_set words (flag_word Backward))
        (is_set words (pending_word Backward)) p c;
    seen = is_some c.grant;
    roomed = is_some p.grant;
  };
  indices = record {
    head = slice_index words head_word;
    tail = slice_index words tail_word;
    taken = wrap (length c.entries);
    sent = wrap (length p.entries);
    stored = false;
  };
}

-- the word that a call of this end reads or writes
abbrev pub word_of : Half → Op → ℕ
word_of h Do.See = if knows_one h then head_word else tail_word
word_of h Do.Room = if knows_one h then tail_word else head_word
word_of h Do.Take = head_word
word_of h Do.Put = tail_word
word_of h (Do.Ask s) = flag_word s
word_of h (Do.Waive s) = flag_word s
word_of h (Do.Wake s) = pending_word s
word_of h (Do.Wanted s) = flag_word s
word_of h (Do.Settle s) = flag_word s
word_of h (Do.Ring s) = pending_word s
word_of h (Do.Store w v) = place_of_word w

-- what stands in that word after the call of this end, where r stood there
abbrev pub word_after : Half → Op → ℕ → ℕ
word_after h Do.See r = r
word_after h Do.Room r = r
word_after h Do.Take r = wrap (length h.entries + 1)
word_after h Do.Put r = wrap (length h.entries + 1)
word_after h (Do.Ask s) r = 0
word_after h (Do.Waive s) r = 1
word_after h (Do.Wake s) r = 0
word_after h (Do.Wanted s) r = r
word_after h (Do.Settle s) r = 1
word_after h (Do.Ring s) r = 1
word_after h (Do.Store w v) r = stored_value w v

-- what the call reads, and the words after it
abbrev pub read_by : List ℕ → Half → Op → ℕ
read_by words h o = slice_index words (word_of h o)

-- the words after the call
abbrev pub words_after : List ℕ → Half → Op → List ℕ
words_after words h o = slice_set words (word_of h o) (word_after h o (read_by words h o))

-- of the two ends, the one that makes the calls of a role
abbrev pub half_of : Role → Half → Half → Half
half_of Consumer p c = c
half_of Producer p c = p

-- the queue that is shown where that end now knows h
abbrev pub queue_with : Role → QueueKind → ℕ → List ℕ → Half → Half → Half → Queue
queue_with Consumer kind n words p c h = ring_queue kind n words p h
queue_with Producer kind n words p c h = ring_queue kind n words h c

-- A call on a ring is the queue law's next event: its answer is the law's at this step, it moves
-- what the law moves, and the queue that is shown after it is the law's.
pub record IsEvent (kind : QueueKind) (n : ℕ) (words : List ℕ) (p c : Half) (o : Op) (a : Answer)
    (cargo : List Cargo) (h : Half) : Type 0 where
  pub tells : Tells (is_filled (ring_queue kind n words p c))
      (has_room (ring_queue kind n words p c)) (ring_queue kind n words p c).bells o a
  pub carries : Carries (ring_queue kind n words p c) o cargo
  pub after : queue_with (role_of o) kind n (words_after words (half_of (role_of o) p c) o) p c h
      ≡ queue_after (ring_queue kind n words p c) o a cargo

-- the last step of a look read what stands there at this moment
abbrev pub WasRead : List ℕ → Op → Half → Type 0
WasRead words Do.See h = slice_index words (last_word h) ≡ last_value h
WasRead words Do.Room h = slice_index words (last_word h) ≡ last_value h
WasRead words Do.Take h = Unit {0}
WasRead words Do.Put h = Unit {0}
WasRead words (Do.Ask s) h = Unit {0}
WasRead words (Do.Waive s) h = Unit {0}
WasRead words (Do.Wake s) h = Unit {0}
WasRead words (Do.Wanted s) h = Unit {0}
WasRead words (Do.Settle s) h = Unit {0}
WasRead words (Do.Ring s) h = Unit {0}
WasRead words (Do.Store w v) h = Unit {0}

-- the entries that are shown where the end of a role now knows h
abbrev pub entries_with : Role → Half → Half → Half → List Cargo
entries_with Consumer p c h = drop (length h.entries) p.entries
entries_with Producer p c h = drop (length c.entries) h.entries

-- A call on a wild ring: it finds an entry or room where the queue law asks for it, it moves what
-- the law moves, and what stands in the queue after it is the law's, whatever the words are.
pub record IsWildEvent (kind : QueueKind) (n : ℕ) (words : List ℕ) (p c : Half) (o : Op)
    (a : Answer) (cargo : List Cargo) (h : Half) : Type 0 where
  pub finds : Finds (is_filled (ring_queue kind n words p c))
      (has_room (ring_queue kind n words p c)) o a
  pub carries : Carries (ring_queue kind n words p c) o cargo
  pub after : entries_with (role_of o) p c h
      ≡ entries_after (ring_queue kind n words p c).entries o cargo
  pub end : known_end h ≡ end_after (known_end (half_of (role_of o) p c)) o a

-- the call is a look
abbrev pub is_look : Op → Bool
is_look Do.See = true
is_look Do.Room = true
is_look Do.Take = false
is_look Do.Put = false
is_look (Do.Ask s) = false
is_look (Do.Waive s) = false
is_look (Do.Wake s) = false
is_look (Do.Wanted s) = false
is_look (Do.Settle s) = false
is_look (Do.Ring s) = false
is_look (Do.Store w v) = false

-- the answer is no
abbrev pub is_no : Answer → Bool
is_no No = true
is_no Yes = false
is_no Done = false

-- the noes that a call counts
abbrev pub more_noes : Op → Answer → ℕ
more_noes o a = if is_look o && is_no a then 1 else 0

-- the call moves an entry
abbrev pub moves : Op → Bool
moves Do.Take = true
moves Do.Put = true
moves Do.See = false
moves Do.Room = false
moves (Do.Ask s) = false
moves (Do.Waive s) = false
moves (Do.Wake s) = false
moves (Do.Wanted s) = false
moves (Do.Settle s) = false
moves (Do.Ring s) = false
moves (Do.Store w v) = false

-- how many word steps a call makes at least, on a ring of this sort
abbrev pub fewest_steps : (wild : Bool) → Op → ℕ
fewest_steps wild o = if wild && moves o then 2 else 1

-- and how many at most
abbrev pub most_steps : (wild : Bool) → Op → ℕ
most_steps wild o = if wild && (moves o || is_look o) then 2 else 1

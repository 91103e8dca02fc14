-- The rule of a ring: its words, its slots and what its two ends know stand for one queue, and on a
-- ring that isn't wild for its bells too.
use Rattle.std.specs.Prelude.{◌≡◌, ℕ, ◌+◌, ◌%◌, ◌<◌, ◌≤◌, Bool, true, false, not, ◌&&◌, List}
use Rattle.std.specs.Prelude.{[], ◌∷◌, ◌++◌, length, drop, All, Option, Some, None, nat_lt}
use mathlib.Core.Option.{some}
use mathlib.Core.Option as maybe
use lib.ListN.{get_elem?}
use Rattle.atomic_table.specs.Table.{State}
use Rattle.cargo_core.specs.declared.act.Word.{Word}
use Rattle.cargo_core.specs.declared.act.Word.TheVariants as Words
use Rattle.cargo_core.specs.declared.item.QueueKind.{QueueKind}
use Rattle.cargo_core.specs.declared.item.QueueKind.TheVariants as Kind
use Rattle.cargo_core.specs.Items.{kind_of}
use Rattle.wire_core.specs.declared.names.BellState.{BellState}
use Rattle.wire_core.specs.declared.names.Side.{Side}
use Rattle.wire_core.specs.declared.names.Side.TheVariants.{Forward, Backward}
use Rattle.wire_core.specs.declared.names.Waiter.TheVariants as Wait
use Rattle.wire_core.specs.declared.names.Ringer.TheVariants as Rung
use Rattle.wire_core.specs.Bells.{BellHolds, bit}
use Rattle.wire_core.specs.Deeds.{Cargo}
use Rattle.spsc_queue.specs.declared.view.Half.{Half}
use Rattle.spsc_queue.specs.declared.view.View.{View}
use Rattle.spsc_queue.specs.declared.rule.Terms.{Terms}

-- an empty place, or an entry
abbrev pub Slot : Type 0
Slot = Option Cargo

-- the word of the head
abbrev pub head_word : ℕ
head_word = 0

-- the word of the tail
abbrev pub tail_word : ℕ
tail_word = 18

-- the flag word of a bell
abbrev pub flag_word : Side → ℕ
flag_word Forward = 19
flag_word Backward = 2

-- the pending word of a bell
abbrev pub pending_word : Side → ℕ
pending_word Forward = 1
pending_word Backward = 20

-- the word of each name
abbrev pub place_of_word : Word → ℕ
place_of_word Words.Head = head_word
place_of_word Words.Tail = tail_word
place_of_word Words.Flag = flag_word Forward
place_of_word Words.FlagBack = flag_word Backward
place_of_word Words.Pending = pending_word Forward
place_of_word Words.PendingBack = pending_word Backward

-- what a word holds after a store of a value: the index words hold 16 bits of it, the others one
abbrev pub stored_value : Word → ℕ → ℕ
stored_value Words.Head v = v % 65536
stored_value Words.Tail v = v % 65536
stored_value Words.Flag v = v % 2
stored_value Words.FlagBack v = v % 2
stored_value Words.Pending v = v % 2
stored_value Words.PendingBack v = v % 2

-- the word of the guard of the place of an index, on a ring of n places
abbrev pub guard_word : ℕ → ℕ → ℕ
guard_word n index = 36 + index % n

-- How the six words lie among others that no call touches: those that the consumer looks at most
-- stand far from those of the producer.
abbrev pub laid : (head tail flag pending flag_back pending_back : ℕ) → List ℕ
laid h t f q fb qb = h ∷ q ∷ fb ∷ 0 ∷ 0 ∷ 0 ∷ 0 ∷ 0 ∷ 0 ∷ 0 ∷ 0 ∷ 0 ∷ 0 ∷ 0 ∷ 0 ∷ 0 ∷ 0 ∷ 0
    ∷ t ∷ f ∷ qb ∷ 0 ∷ 0 ∷ 0 ∷ 0 ∷ 0 ∷ 0 ∷ 0 ∷ 0 ∷ 0 ∷ 0 ∷ 0 ∷ 0 ∷ 0 ∷ 0 ∷ 0 ∷ []

-- an index as a word holds it: free running, by 16 bits
abbrev pub wrap : ℕ → ℕ
wrap n = n % 65536

-- The slots of a ring of n places, where t entries were taken and these are left.
-- A slot that is granted to an end is away.
pub record SlotsHold (n : ℕ) (homes : List (maybe.Option Slot)) (t : ℕ) (left : List Cargo)
    (producer consumer : Option Slot) : Type 0 where
  pub size : length homes ≡ n
  pub within : length left ≤ n
  pub filled : (k : ℕ) (x : Cargo) → get_elem? left k ≡ some x → (k ≡ 0 → consumer ≡ None)
      → get_elem? homes ((t + k) % n) ≡ some (some (Some x))
  pub empty : (k : ℕ) → length left ≤ k → k < n → (k ≡ length left → producer ≡ None)
      → get_elem? homes ((t + k) % n) ≡ some (some None)
  pub to_producer : (y : Slot) → producer ≡ Some y → (y ≡ None) × (length left < n)
  pub to_consumer : (y : Slot) → consumer ≡ Some y
      → (x : Cargo) × (y ≡ Some x) × (left ≡ x ∷ drop 1 left)

-- the bell of entries: its waiter is the consumer, its ringer the producer
abbrev pub forward_bell : Bool → Bool → Half → Half → BellState
forward_bell flag pending p c = record {
  flag = flag;
  pending = pending;
  waiter = c.waiter;
  ringer = p.ringer;
}

-- the bell of room: its waiter is the producer, its ringer the consumer
abbrev pub backward_bell : Bool → Bool → Half → Half → BellState
backward_bell flag pending p c = record {
  flag = flag;
  pending = pending;
  waiter = p.waiter;
  ringer = c.ringer;
}

-- the lists and the slots: what was taken is a beginning of what was sent and at most n shorter,
-- each with the time at which it was put; all of it is of the ring's kind, and the rest lies in the
-- slots
pub record ListsHold (kind : QueueKind) (n : ℕ) (homes : List (maybe.Option Slot))
    (p c : Half) : Type 0 where
  pub left : List Cargo
  pub some_place : 0 < n
  pub few : n ≤ 32768
  pub divides : 65536 % n ≡ 0
  pub sent : p.entries ≡ c.entries ++ left
  pub later : List ℕ
  pub times : p.times ≡ c.times ++ later
  pub timed : length later ≡ length left
  pub kinds : All (λ x. kind_of x.0 ≡ kind) p.entries
  pub producer_kind : p.kind ≡ kind
  pub consumer_kind : c.kind ≡ kind
  pub slots : SlotsHold n homes (length c.entries) left p.grant c.grant

-- the flag of a bell, by what its waiter and its ringer did: it is 0 from a wish of the waiter on,
-- until the waiter takes it back or the ringer does
abbrev pub flag_of : Half → Half → Bool
flag_of waiter ringer = not (waiter.wishes && nat_lt ringer.settled waiter.asks)

-- its pending word: it is 1 from a notification on, until the waiter looks
abbrev pub pending_of : Half → Half → Bool
pending_of waiter ringer = nat_lt waiter.woken ringer.rings

-- the flag and pending word of a bell are what its two ends did, of which neither knows of more
-- than there was
pub record WordsTold (flag pending wishes : Bool) (asks settled rings woken : ℕ) : Type 0 where
  pub flag_is : flag ≡ not (wishes && nat_lt settled asks)
  pub settled_within : settled ≤ asks
  pub pending_is : pending ≡ nat_lt woken rings
  pub woken_within : woken ≤ rings

-- the words: the two indices, and the flag and pending word of each bell, which are what the two
-- ends did and meet the bell law; and for what an end may still put or take there is room, or it is
-- there
pub record WordsHold (n : ℕ) (words : List ℕ) (left : List Cargo) (p c : Half) : Type 0 where
  pub flag : Bool
  pub pending : Bool
  pub flag_back : Bool
  pub pending_back : Bool
  pub words_are : words ≡ laid (wrap (length c.entries)) (wrap (length p.entries)) (bit flag)
      (bit pending) (bit flag_back) (bit pending_back)
  pub forward_told : WordsTold flag pending c.wishes c.asks p.settled p.rings c.woken
  pub backward_told : WordsTold flag_back pending_back p.wishes p.asks c.settled c.rings p.woken
  pub room_ahead : p.ahead + length left ≤ n
  pub entries_ahead : c.ahead ≤ length left
  pub forward : BellHolds (forward_bell flag pending p c) (nat_lt 0 (length left))
      (length p.entries)
  pub backward : BellHolds (backward_bell flag_back pending_back p c) (nat_lt (length left) n)
      (length c.entries)

-- what these words are is what the two ends know
abbrev pub words_of : Half → Half → List ℕ
words_of p c = laid (wrap (length c.entries)) (wrap (length p.entries)) (bit (flag_of c p))
    (bit (pending_of c p)) (bit (flag_of p c)) (bit (pending_of p c))

-- the guards of a wild ring of n places, where t entries were taken and these are left: each place
-- has the index of one of the n entries from the next one to be taken on, and its guard is 1 where
-- that entry was sent, and else 0
abbrev pub GuardsHold : ℕ → List ℕ → ℕ → List Cargo → Type 0
GuardsHold n words t left = (k : ℕ) → k < n
    → get_elem? words (guard_word n (t + k)) ≡ some (bit (nat_lt k (length left)))

-- what the words are: on a wild ring nothing is said of the six, in which either end may store what
-- it likes, and the guards tell what they did elsewhere
abbrev pub SharedHold : (wild : Bool) → ℕ → List ℕ → List Cargo → Half → Half → Type 0
SharedHold false n words left p c = WordsHold n words left p c
SharedHold true n words left p c = GuardsHold n words (length c.entries) left

-- what the two ends know, with the slots and the words, on a ring of this sort
pub record EndsHold (wild : Bool) (kind : QueueKind) (n : ℕ) (words : List ℕ)
    (homes : List (maybe.Option Slot)) (p c : Half) : Type 0 where
  pub lists : ListsHold kind n homes p c
  pub producer_sort : p.wild ≡ wild
  pub consumer_sort : c.wild ≡ wild
  pub shared : SharedHold wild n words lists.left p c

-- one seat produces, one consumes, and what these two know fits the words and slots
pub record RingHolds (wild : Bool) (kind : QueueKind) (s : State Slot View) : Type 0 where
  pub p : ℕ
  pub c : ℕ
  pub producing : View
  pub consuming : View
  pub at_p : get_elem? s.views p ≡ some producing
  pub at_c : get_elem? s.views c ≡ some consuming
  pub produces : producing.produces ≡ true
  pub consumes : consuming.consumes ≡ true
  pub one_producer : (j : ℕ) (v : View) → get_elem? s.views j ≡ some v → v.produces ≡ true → j ≡ p
  pub one_consumer : (j : ℕ) (v : View) → get_elem? s.views j ≡ some v → v.consumes ≡ true → j ≡ c
  pub ends : EndsHold wild kind (length s.homes) s.words s.homes
      producing.producer consuming.consumer

-- the rule of a ring on these terms
abbrev pub TermsHold : Terms → State Slot View → Type 0
TermsHold t s = RingHolds t.wild t.kind s

-- what the producer of a new ring knows
abbrev pub first_producer : QueueKind → Half
first_producer k = record {
  entries = [];
  times = [];
  kind = k;
  waiter = Wait.Off;
  ringer = Rung.Free;
  grant = None;
  noes = 0;
  ahead = 0;
  wishes = false;
  asks = 0;
  woken = 0;
  settled = 0;
  rings = 0;
  wild = false;
  walked = [];
}

-- what the consumer of a new ring knows: the ring is opened with its wish
abbrev pub first_consumer : QueueKind → Half
first_consumer k = record {
  entries = [];
  times = [];
  kind = k;
  waiter = Wait.Busy;
  ringer = Rung.Free;
  grant = None;
  noes = 0;
  ahead = 0;
  wishes = true;
  asks = 1;
  woken = 0;
  settled = 0;
  rings = 0;
  wild = false;
  walked = [];
}

-- what the producer of a new wild ring knows
abbrev pub wild_producer : QueueKind → Half
wild_producer k = record (first_producer k) { wild = true }

-- what its consumer knows
abbrev pub wild_consumer : QueueKind → Half
wild_consumer k = record (first_consumer k) { wild = true }

-- what the one seat of a new ring knows, which has both roles
abbrev pub first_view : Terms → View
first_view t = record {
  produces = true;
  consumes = true;
  producer = record (first_producer t.kind) { wild = t.wild };
  consumer = record (first_consumer t.kind) { wild = t.wild };
}

-- what a seat knows that has no role and knew of nothing
abbrev pub blank_view : View
blank_view = record {
  produces = false;
  consumes = false;
  producer = first_producer Kind.Byte;
  consumer = first_consumer Kind.Byte;
}

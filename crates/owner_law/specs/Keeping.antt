-- What an actor may put for what it had at the start and what it took, and what the lists of all
-- actors show of the table.
use Rattle.std.specs.Prelude.{◌≡◌, ◌⊎◌, ◌==◌, ◌+◌, ◌<◌, ◌≤◌, ℕ, Bool, true, false, nat_lt}
use Rattle.std.specs.Prelude.{if◌then◌else◌, Some, List, [], ◌∷◌, length, slice_get, sum_by}
use Rattle.std.specs.Prelude.{count_by, flat_map}
use Rattle.wire_core.specs.declared.names.QueueRow.{QueueRow}
use Rattle.wire_core.specs.declared.names.Entry.{Entry}
use Rattle.wire_core.specs.Bells.{bit}
use Rattle.wire_core.specs.Ends.{Role, Consumer, Producer}
use Rattle.wire_core.specs.Journal.{History, Hostiles, QueuesFlow, LegalJournal, EachMoment}
use Rattle.wire_core.specs.Journal.{owner_of}
use Rattle.play_core.specs.Moved.{Moved, Seat, moved, sent}
use Rattle.play_core.specs.Sheets.{Sheet, AreApart, IsSeat}
use Rattle.play_core.specs.Still.{Holds, IsPeopled}
use Rattle.owner_law.specs.Things.{Buffer, Window, Names, NoBuffers, Buffers, Frames, Leases}
use Rattle.owner_law.specs.Things.{Returns, Answers, Naming, Thing, things_sent, things_taken}
use Rattle.owner_law.specs.Things.{as_buffer, as_lease, lends, gives_back, brings_leases}
use Rattle.owner_law.specs.Owners.{InQueue, InHand, Place, Nowhere, At, Lent, Table, leases_at}
use Rattle.owner_law.specs.Owners.{receivers, AreCounted}

-- an actor: its ends, and of each pool, by its number, the buffers that it has at the start
pub record Keeper : Type 0 where
  pub ends : List Seat
  pub hand : ℕ → List ℕ

-- what a sheet says of an actor
abbrev pub keeper_of : Sheet → Keeper
keeper_of s = record { ends = s.ends; hand = s.hand }

-- how often a buffer is in a hand at the start
abbrev pub at_start : (ℕ → List ℕ) → Buffer → ℕ
at_start hand b = count_by (λ no. no == b.no) (hand b.pool)

-- of an end, what a consumer took there, or what a producer put
abbrev pub by_role : Role → List Thing → List Thing → List Thing
by_role Consumer taken sent = taken
by_role Producer taken sent = sent

-- what passed at an end into the actor's hand
abbrev pub things_in : Naming → Moved → Seat → List Thing
things_in naming m s = by_role s.role (things_taken naming m s.queue) []

-- what passed at an end out of the actor's hand
abbrev pub things_out : Naming → Moved → Seat → List Thing
things_out naming m s = by_role s.role [] (things_sent naming m s.queue)

-- all that an actor took
abbrev pub all_taken : Naming → Moved → List Seat → List Thing
all_taken naming m ends = flat_map (things_in naming m) ends

-- all that an actor put
abbrev pub all_put : Naming → Moved → List Seat → List Thing
all_put naming m ends = flat_map (things_out naming m) ends

-- a buffer is lent by who lent it to more receivers than gave it back
abbrev pub is_out : Buffer → List Thing → Bool
is_out b took = nat_lt (sum_by (gives_back b) took) (sum_by (lends b) took)

-- an actor that took these things and put those put only what was in its hand: of each buffer as
-- many as it had at the start and took, but for one that is lent, and of each lease as many as it
-- took and made
pub record Keeps (hand : ℕ → List ℕ) (took put : List Thing) : Type 0 where
  pub buffers : (b : Buffer) → sum_by (as_buffer b) put + bit (is_out b took)
      ≤ at_start hand b + sum_by (as_buffer b) took
  pub leases : (b : Buffer) → sum_by (as_lease b) put ≤ sum_by (brings_leases b) took

-- the row of an actor lets it put only what was in its hand
abbrev pub PutsItsOwn : Naming → Sheet → Type 0
PutsItsOwn naming s = (m : Moved) → AreApart s.ends → s.row m
    → Keeps s.hand (all_taken naming m s.ends) (all_put naming m s.ends)

-- one where a buffer with this place stands in a queue
abbrev pub stands_in : (queue : ℕ) → Place → ℕ
stands_in n Nowhere = 0
stands_in n (At (InQueue q)) = bit (q == n)
stands_in n (At (InHand k)) = 0
stands_in n (Lent receivers) = 0

-- one where an actor has it, in its hand or as the one that lent it
abbrev pub is_with : (lender actor : ℕ) → Place → ℕ
is_with lender k Nowhere = 0
is_with lender k (At (InQueue q)) = 0
is_with lender k (At (InHand j)) = bit (j == k)
is_with lender k (Lent receivers) = bit (lender == k)

-- the actor that has it is one of so many
abbrev pub IsAmong : (count lender : ℕ) → Place → Type 0
IsAmong count lender Nowhere = Unit {0}
IsAmong count lender (At (InQueue n)) = Unit {0}
IsAmong count lender (At (InHand k)) = k < count
IsAmong count lender (Lent receivers) = lender < count

-- a table is shown by what passed at the ends of all actors, of which one lends buffers: in each
-- queue stands what was put there and not taken; with each actor is what it had and what came to
-- it, and didn't go; and a buffer has as many receivers as it was lent to and didn't give it back
pub record IsShownBy (naming : Naming) (lender : ℕ) (keepers : List Keeper) (m : Moved)
    (t : Table) : Type 0 where
  pub queued : (n : ℕ) (b : Buffer) → sum_by (as_buffer b) (things_taken naming m n)
      + stands_in n (t.place b) ≡ sum_by (as_buffer b) (things_sent naming m n)
  pub leases_queued : (n : ℕ) (b : Buffer) → sum_by (as_lease b) (things_taken naming m n)
      + leases_at t b (InQueue n) ≡ sum_by (as_lease b) (things_sent naming m n)
  pub held : (k : ℕ) (p : Keeper) (b : Buffer) → slice_get keepers k ≡ Some p
      → sum_by (as_buffer b) (all_put naming m p.ends) + is_with lender k (t.place b)
      ≡ at_start p.hand b + sum_by (as_buffer b) (all_taken naming m p.ends)
  pub leases_held : (k : ℕ) (p : Keeper) (b : Buffer) → slice_get keepers k ≡ Some p
      → sum_by (as_lease b) (all_put naming m p.ends) + leases_at t b (InHand k)
      ≡ sum_by (brings_leases b) (all_taken naming m p.ends)
  pub lent : (p : Keeper) (b : Buffer) → slice_get keepers lender ≡ Some p
      → receivers (t.place b) + sum_by (gives_back b) (all_taken naming m p.ends)
      ≡ sum_by (lends b) (all_taken naming m p.ends)
  pub among : (b : Buffer) → IsAmong (length keepers) lender (t.place b)

-- buffers are lent where they are taken from such a queue, or come back there
abbrev pub is_lending : Names → Bool
is_lending NoBuffers = false
is_lending (Buffers ws) = false
is_lending (Frames ws receivers) = true
is_lending (Leases ws) = false
is_lending (Returns ws) = true
is_lending (Answers q ws) = false

-- the first of these actors, from a number on, in whose hand a buffer is at the start
abbrev pub first_place : (actor : ℕ) → List Keeper → Buffer → Place
first_place k [] b = Nowhere
first_place k (p ∷ keepers) b = if nat_lt 0 (at_start p.hand b) then At (InHand k) else
    first_place (k + 1) keepers b

-- the table at the start: each buffer is in the hand of the actor that has it, and none is lent
abbrev pub start_table : List Keeper → Table
start_table keepers = record { place = first_place 0 keepers; leases = λ b. [] }

-- no buffer is in two hands at the start, or twice in one
abbrev pub AreDealt : List Keeper → Type 0
AreDealt keepers = (b : Buffer) → sum_by (λ p. at_start p.hand b) keepers ≤ 1

-- items name buffers at queues that are there and have no hostile end; one actor lends; and no
-- queue answers itself
pub record IsNaming (naming : Naming) (lender : ℕ) (hostile : Hostiles)
    (rows : List QueueRow) : Type 0 where
  pub calm : (n : ℕ) → (naming n ≡ NoBuffers) ⊎ Holds hostile rows n 0
  pub lends : (n : ℕ) (row : QueueRow) → slice_get rows n ≡ Some row
      → is_lending (naming n) ≡ true → owner_of row Consumer ≡ lender
  pub answers : (n q : ℕ) (ws : List Window) → naming n ≡ Answers q ws → n ≡ q → ⊥

-- the actors have just the ends that the rows give them, and the owners of all queues are among
-- them
pub record AreKeepers (rows : List QueueRow) (keepers : List Keeper) : Type 0 where
  pub seated : (k : ℕ) (p : Keeper) → slice_get keepers k ≡ Some p → (i : ℕ) (s : Seat)
      → slice_get p.ends i ≡ Some s → IsSeat rows k s
  pub filled : (k : ℕ) (p : Keeper) → slice_get keepers k ≡ Some p → (s : Seat) → IsSeat rows k s
      → (i : ℕ) × (slice_get p.ends i ≡ Some s)
  pub apart : (k : ℕ) (p : Keeper) → slice_get keepers k ≡ Some p → AreApart p.ends
  pub peopled : IsPeopled rows (length keepers)

-- what the rows of actors and the law of queues give of a moment: each actor that isn't hostile put
-- only what was in its hand, queues hand over in order, and there are no more responses than
-- requests
pub record IsKept (naming : Naming) (hostile : Hostiles) (history : History) (rows : List QueueRow)
    (keepers : List Keeper) (journal : List Entry) : Type 0 where
  pub keeps : (k : ℕ) (p : Keeper) → hostile k ≡ false → slice_get keepers k ≡ Some p
      → Keeps p.hand (all_taken naming (moved history journal) p.ends)
      (all_put naming (moved history journal) p.ends)
  pub flows : QueuesFlow history rows journal
  pub answers : (n q : ℕ) (ws : List Window) → naming n ≡ Answers q ws
      → length (sent history n journal) ≤ length (sent history q journal)

-- a journal of such actors, each moment of which is kept, and that begins with a table which the
-- actors' lists show and in which lent buffers are counted
pub record IsOwned (naming : Naming) (lender : ℕ) (hostile : Hostiles) (history : History)
    (rows : List QueueRow) (keepers : List Keeper) (start : Table)
    (journal : List Entry) : Type 0 where
  pub naming_is : IsNaming naming lender hostile rows
  pub keepers_are : AreKeepers rows keepers
  pub legal : LegalJournal hostile history rows journal
  pub kept : EachMoment (IsKept naming hostile history rows keepers) journal
  pub counted : AreCounted start
  pub shown : IsShownBy naming lender keepers (moved history []) start

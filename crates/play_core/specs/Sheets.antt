-- The table of a kind of actor: all that is said of one actor by the part that it plays, in one
-- record.
use Rattle.std.specs.Prelude.{◌≡◌, ◌≢◌, ℕ, true, false, nat_lt, Some, List, length, map, slice_get}
use Rattle.cargo_core.specs.declared.item.Item.{Item}
use Rattle.wire_core.specs.declared.names.QueueRow.{QueueRow}
use Rattle.wire_core.specs.Ends.{Consumer, Producer}
use Rattle.wire_core.specs.Journal.{Hostiles, owner_of}
use Rattle.play_core.specs.Moved.{Moved, Seat, AreAlike, LookAlike, with_put}
use Rattle.play_core.specs.Wants.{Want, Needful, seat_of, outlet_want}

-- what a trace gives the classes beside the parts of their actors: the frames that the network's
-- device receives, and the first image of the disk
pub record Scene : Type 0 where
  pub frames : List (List ℕ)
  pub image : List ℕ

-- so many entries are due to a queue, those included that were put
pub record Due : Type 0 where
  pub queue : ℕ
  pub number : ℕ

-- what is said of an actor
pub record Sheet : Type 1 where
  -- the ends that it has
  pub ends : List Seat
  -- what it may have put for what it took
  pub row : Moved → Type 0
  -- its ends, with what it needs there
  pub wants : Moved → List Want
  -- the outputs at which a number is due, and that number
  pub dues : Moved → List Due
  -- of each pool, by its number, the buffers that it has at the start
  pub hand : ℕ → List ℕ

-- fewer entries were put to an output than are due
abbrev pub due_want : Moved → Due → Want
due_want m d = outlet_want d.queue (nat_lt (length (m.sent d.queue)) d.number)

-- the row would still hold after one more put of some item to queue n
abbrev pub CouldPut : Sheet → Moved → ℕ → Type 0
CouldPut s m n = (item : Item) × s.row (with_put m n item)

-- no end stands twice
abbrev pub AreApart : List Seat → Type 0
AreApart seats = (i j : ℕ) (s : Seat) → slice_get seats i ≡ Some s → slice_get seats j ≡ Some s
    → i ≡ j

-- a sheet speaks of its own ends alone
pub record IsOwn (s : Sheet) : Type 0 where
  pub row : (a b : Moved) → AreAlike s.ends a b → LookAlike s.ends a b
      → s.row a → s.row b
  pub wants : (a b : Moved) → AreAlike s.ends a b → LookAlike s.ends a b
      → s.wants a ≡ s.wants b
  pub ends : (m : Moved) → map seat_of (s.wants m) ≡ s.ends

-- its needs follow from its row: an output is owed exactly where the row would still hold after one
-- more put there, and where a number is due at an output, it is owed as long as fewer were put
pub record NeedsFollow (s : Sheet) : Type 0 where
  pub owed : (m : Moved) → AreApart s.ends → s.row m → (i : ℕ) (w : Want)
      → slice_get (s.wants m) i ≡ Some w → w.role ≡ Producer → w.need ≡ true → CouldPut s m w.queue
  pub only : (m : Moved) → AreApart s.ends → s.row m → (i : ℕ) (w : Want)
      → slice_get (s.wants m) i ≡ Some w → w.role ≡ Producer → CouldPut s m w.queue → w.need ≡ true
  pub due : (m : Moved) (i : ℕ) (d : Due) → slice_get (s.dues m) i ≡ Some d
      → (k : ℕ) × (slice_get (s.wants m) k ≡ Some (due_want m d))

-- the row of each of these actors that isn't hostile holds
abbrev pub RowsHold : {P : Type 0} → (P → Sheet) → Hostiles → List P → Moved → Type 0
RowsHold {P} sheet hostile cast m =
    (k : ℕ) (p : P) → hostile k ≡ false → slice_get cast k ≡ Some p → (sheet p).row m

-- what each of these actors wants
abbrev pub needful : {P : Type 0} → (P → Sheet) → List P → Moved → Needful
needful sheet cast m = map (λ p. (sheet p).wants m) cast

-- by the rows, actor k has this end
abbrev pub IsSeat : List QueueRow → ℕ → Seat → Type 0
IsSeat rows k s = (row : QueueRow) × (slice_get rows s.queue ≡ Some row) × (owner_of row s.role ≡ k)

-- each end of an actor is one that the rows give it
abbrev pub AreSeated : {P : Type 0} → (P → Sheet) → List QueueRow → List P → Type 0
AreSeated {P} sheet rows cast =
    (k : ℕ) (p : P) → slice_get cast k ≡ Some p → (i : ℕ) (s : Seat)
    → slice_get (sheet p).ends i ≡ Some s → IsSeat rows k s

-- each end that the rows give an actor is one of its own
abbrev pub AreFilled : {P : Type 0} → (P → Sheet) → List QueueRow → List P → Type 0
AreFilled {P} sheet rows cast =
    (k : ℕ) (p : P) → slice_get cast k ≡ Some p → (s : Seat) → IsSeat rows k s
    → (i : ℕ) × (slice_get (sheet p).ends i ≡ Some s)

-- no actor has both ends of a queue
abbrev pub HaveTwoOwners : List QueueRow → Type 0
HaveTwoOwners rows =
    (n : ℕ) (row : QueueRow) → slice_get rows n ≡ Some row
    → owner_of row Consumer ≢ owner_of row Producer

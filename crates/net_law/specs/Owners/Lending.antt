-- The actor that lends: what its row says of its items, and for how many clients a frame is.
use Rattle.std.specs.Prelude.{◌≡◌, ◌+◌, ◌≤◌, ℕ, Bool, nat_lt, if◌then◌else◌, Option, Some, List, []}
use Rattle.std.specs.Prelude.{◌∷◌, slice_get, sum_by, flat_map}
use Rattle.cargo_core.specs.Lists.{IsPrefix}
use Rattle.wire_core.specs.Bells.{bit}
use Rattle.play_core.specs.Moved.{Moved, Seat}
use Rattle.play_core.specs.Wants.{intake, outlet}
use Rattle.owner_law.specs.Things.{Buffer, Window, Buffers, Frames, Leases, Returns, Naming}
use Rattle.owner_law.specs.Things.{names_in, times}
use Rattle.owner_law.specs.Keeping.{at_start}

-- a client as the lender has it: the queues on which leases go there and come back, and which
-- frames are for it, by their places
pub record Borrower : Type 0 where
  pub active : ℕ
  pub free : ℕ
  pub is_for : ℕ → Bool

-- to how many clients the frame of a place goes
abbrev pub receivers_of : List Borrower → ℕ → ℕ
receivers_of clients place = sum_by (λ c. bit (c.is_for place)) clients

-- of the names at these places, from one on, those of the places where it is so
abbrev pub names_where : (ℕ → Bool) → ℕ → List (Option Buffer) → List (Option Buffer)
names_where test place [] = []
names_where test place (x ∷ xs) =
    if test place then x ∷ names_where test (place + 1) xs else names_where test (place + 1) xs

-- the lender: the queue on which buffers with frames come, the one to which it puts free buffers,
-- its clients, and what it has at the start
pub record Lender : Type 0 where
  pub frames : ℕ
  pub free : ℕ
  pub clients : List Borrower
  pub hand : ℕ → List ℕ

-- its ends at a client's queues
abbrev pub borrower_ends : Borrower → List Seat
borrower_ends c = outlet c.active ∷ intake c.free ∷ []

-- all its ends
abbrev pub lender_ends : Lender → List Seat
lender_ends l = intake l.frames ∷ outlet l.free ∷ flat_map borrower_ends l.clients

-- buffers with frames come to it, and buffers go; leases go to each client, and come back
pub record LenderNames (naming : Naming) (buffers leased : List Window) (l : Lender) : Type 0 where
  pub frames : naming l.frames ≡ Frames buffers (receivers_of l.clients)
  pub free : naming l.free ≡ Buffers buffers
  pub leases : (k : ℕ) (c : Borrower) → slice_get l.clients k ≡ Some c
      → naming c.active ≡ Leases leased
  pub returns : (k : ℕ) (c : Borrower) → slice_get l.clients k ≡ Some c
      → naming c.free ≡ Returns leased

-- the buffers that it took with frames
abbrev pub frames_taken : List Window → Lender → Moved → List (Option Buffer)
frames_taken buffers l m = names_in buffers (m.taken l.frames)

-- how many leases of a buffer it has to make for the frames that it took
abbrev pub leases_due : List Window → Lender → Moved → Buffer → ℕ
leases_due buffers l m b =
    sum_by (λ c. times b (names_where c.is_for 0 (frames_taken buffers l m))) l.clients

-- how many leases of a buffer came back to it
abbrev pub leases_back : List Window → Lender → Moved → Buffer → ℕ
leases_back leased l m b = sum_by (λ c. times b (names_in leased (m.taken c.free))) l.clients

-- its row, of items alone: each client's leases are of those frames that are for it, in their
-- order; and each buffer that it put was in its hand, where a buffer isn't while a lease of it is
-- out
pub record LenderRow (buffers leased : List Window) (l : Lender) (m : Moved) : Type 0 where
  pub shares : (k : ℕ) (c : Borrower) → slice_get l.clients k ≡ Some c
      → IsPrefix (names_in leased (m.sent c.active))
      (names_where c.is_for 0 (frames_taken buffers l m))
  pub in_hand : (b : Buffer) → times b (names_in buffers (m.sent l.free))
      + bit (nat_lt (leases_back leased l m b) (leases_due buffers l m b))
      ≤ at_start l.hand b + times b (frames_taken buffers l m)

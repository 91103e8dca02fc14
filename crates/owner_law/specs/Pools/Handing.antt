-- Entries that carry the pages which their items name, and actors that hand them on so.
use Rattle.std.specs.Prelude.{◌≡◌, ◌≤◌, ℕ, Some, List, length, slice_get}
use Rattle.cargo_core.specs.Lists.{IsPrefix}
use Rattle.wire_core.specs.Deeds.{Cargo, Deed}
use Rattle.wire_core.specs.Ends.{Consumer, Producer, role_of}
use Rattle.wire_core.specs.Lists.{Passed, with_deed}
use Rattle.wire_core.specs.Queues.{items_of}
use Rattle.play_core.specs.Moved.{Moved, Seat}
use Rattle.play_core.specs.Wants.{intake, outlet}
use Rattle.owner_law.specs.Things.{Buffer, Window, NoBuffers, Answers, Naming, thing_at}
use Rattle.owner_law.specs.Things.{requests_of, as_buffer}
use Rattle.owner_law.specs.Pages.{as_page, CarryPages}

-- an entry at a place among all that went to a queue has as its body the page of the buffer that
-- its item names, and else none
abbrev pub Carries : Naming → Moved → (queue place : ℕ) → Cargo → Type 0
Carries naming m n k c =
    (b : Buffer) → as_page b c.1
    ≡ as_buffer b (thing_at (naming n) (requests_of (naming n) m) k c.0)

-- each of these entries does, the first ones of a queue
abbrev pub AllCarry : Naming → Moved → (queue : ℕ) → List Cargo → Type 0
AllCarry naming m n cs = (k : ℕ) (c : Cargo) → slice_get cs k ≡ Some c → Carries naming m n k c

-- all that was taken at these ends carries what is named
abbrev pub TakesPages : Naming → Moved → Passed → List Seat → Type 0
TakesPages naming m passed ends = (i : ℕ) (s : Seat) → slice_get ends i ≡ Some s
    → s.role ≡ Consumer → AllCarry naming m s.queue (passed.taken s.queue)

-- so does all that was put there
abbrev pub PutsPages : Naming → Moved → Passed → List Seat → Type 0
PutsPages naming m passed ends = (i : ℕ) (s : Seat) → slice_get ends i ≡ Some s
    → s.role ≡ Producer → AllCarry naming m s.queue (passed.sent s.queue)

-- an actor with these ends hands pages on: where what it took carries what is named, so does what
-- it put
abbrev pub HandsOn : Naming → Moved → Passed → List Seat → Type 0
HandsOn naming m passed ends = TakesPages naming m passed ends → PutsPages naming m passed ends

-- after all entries carried what their items name, an actor with these ends made a call, and by
-- then it has handed pages on; what was taken at a queue is a beginning of what was put there, no
-- more is answered than asked, and the actor takes from no queue to which it puts
pub record IsOnward (naming : Naming) (old new : Moved) (passed : Passed) (d : Deed)
    (ends : List Seat) : Type 0 where
  pub carried : CarryPages naming old passed
  pub sent : (n : ℕ) → new.sent n ≡ items_of ((with_deed passed d).sent n)
  pub taken : (n : ℕ) → new.taken n ≡ items_of ((with_deed passed d).taken n)
  pub begins : (n : ℕ) → IsPrefix ((with_deed passed d).taken n) ((with_deed passed d).sent n)
  pub asked : (n q : ℕ) (ws : List Window) → naming n ≡ Answers q ws
      → length (old.sent n) ≤ length (old.sent q)
  pub own : (i : ℕ) × (slice_get ends i
      ≡ Some (record { queue = d.event.queue.0; role = role_of d.event.op }))
  pub split : (i j n : ℕ) → slice_get ends i ≡ Some (intake n) → slice_get ends j ≡ Some (outlet n)
      → ⊥
  pub hands_on : HandsOn naming new (with_deed passed d) ends

-- at no queue of these ends do items name anything
abbrev pub NameNothing : Naming → List Seat → Type 0
NameNothing naming ends =
    (i : ℕ) (s : Seat) → slice_get ends i ≡ Some s → naming s.queue ≡ NoBuffers

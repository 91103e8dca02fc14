-- Where the pages are that the table tells of: entries of queues with their bodies.
use Rattle.std.specs.Prelude.{◌≡◌, ◌==◌, ◌&&◌, ℕ, Some, slice_get}
use Rattle.cargo_core.specs.declared.item.Body.{Body}
use Rattle.cargo_core.specs.declared.item.Body.TheVariants as Carried
use Rattle.wire_core.specs.Bells.{bit}
use Rattle.wire_core.specs.Deeds.{Cargo}
use Rattle.wire_core.specs.Lists.{Passed}
use Rattle.wire_core.specs.Queues.{items_of}
use Rattle.play_core.specs.Moved.{Moved}
use Rattle.owner_law.specs.Things.{Buffer, Naming, thing_at, requests_of, as_buffer}

-- one where a body is the page of a buffer
abbrev pub as_page : Buffer → Body → ℕ
as_page b Carried.Empty = 0
as_page b (Carried.Page page) = bit ((page.pool.0 == b.pool) && (page.no == b.no))
as_page b (Carried.Lease lease) = 0

-- the entries that passed have these items, and each has as its body the page of the buffer that
-- its item names, and else none
pub record CarryPages (naming : Naming) (m : Moved) (passed : Passed) : Type 0 where
  pub sent : (n : ℕ) → m.sent n ≡ items_of (passed.sent n)
  pub taken : (n : ℕ) → m.taken n ≡ items_of (passed.taken n)
  pub bodies : (n k : ℕ) (c : Cargo) → slice_get (passed.sent n) k ≡ Some c → (b : Buffer)
      → as_page b c.1 ≡ as_buffer b (thing_at (naming n) (requests_of (naming n) m) k c.0)

-- Where regions and queues are placed: each at the least place that is free when its turn comes.
use Rattle.sdf_plan.specs.ClassTable.Sizes.{entry_size}
use Rattle.std.specs.Prelude.{◌≡◌, ℕ, ◌+◌, ◌*◌, ◌<◌, ◌≤◌, ◌⊎◌, List, Some, None, slice_get}
use Rattle.wire_core.specs.declared.names.QueueRow.{QueueRow}
use Rattle.sdf_plan.specs.declared.plan.Region.{Region}
use Rattle.sdf_check.specs.Rules.{IsMultiple}

-- an address from which on a region may be placed: it isn't below 0x40000000, nor the end of a
-- range that is given, nor that of a region that was placed before
pub record IsFreeFor (regions : List Region) (bases : List ℕ) (r address : ℕ) : Type 0 where
  pub low : 0x40000000 ≤ address
  pub given : (k : ℕ) (other : Region) (base : ℕ) → slice_get regions k ≡ Some other
      → other.phys_addr ≡ Some base → base + other.size ≤ address
  pub placed : (k : ℕ) (other : Region) (base : ℕ) → k < r → slice_get regions k ≡ Some other
      → other.phys_addr ≡ None → slice_get bases k ≡ Some base → base + other.size ≤ address

-- a base is the least multiple of the page size from which on the region may be placed
pub record IsLeastBase (regions : List Region) (bases : List ℕ) (r : ℕ) (region : Region)
    (base : ℕ) : Type 0 where
  pub multiple : IsMultiple base region.page_size
  pub free : IsFreeFor regions bases r base
  pub least : (other : ℕ) → IsMultiple other region.page_size → IsFreeFor regions bases r other
      → base ≤ other

-- a region has the base that it is given, or the least one
pub record IsPlaced (regions : List Region) (bases : List ℕ) (r : ℕ)
    (region : Region) : Type 0 where
  pub base : ℕ
  pub at : slice_get bases r ≡ Some base
  pub given : (address : ℕ) → region.phys_addr ≡ Some address → base ≡ address
  pub placed : region.phys_addr ≡ None → IsLeastBase regions bases r region base

-- so has each region
abbrev pub ArePlaced : List Region → List ℕ → Type 0
ArePlaced regions bases = (r : ℕ) (region : Region) → slice_get regions r ≡ Some region
    → IsPlaced regions bases r region

-- a queue, by its number, stands behind the one before it, in the same region: at the least
-- multiple of 64 that isn't below the end of that one's header and entries
pub record IsBehind (rows : List QueueRow) (k : ℕ) (row : QueueRow) : Type 0 where
  pub place : ℕ
  pub before : QueueRow
  pub next : k ≡ place + 1
  pub there : slice_get rows place ≡ Some before
  pub same : before.region ≡ row.region
  pub multiple : IsMultiple row.offset 64
  pub behind : before.offset + (64 + entry_size before.kind * before.capacity) ≤ row.offset
  pub least : (other : ℕ) → IsMultiple other 64
      → before.offset + (64 + entry_size before.kind * before.capacity) ≤ other → row.offset ≤ other

-- no queue before this number stands in a region
abbrev pub IsFirst : List QueueRow → ℕ → ℕ → Type 0
IsFirst rows k r =
    (j : ℕ) (other : QueueRow) → j < k → slice_get rows j ≡ Some other → other.region ≡ Some r → ⊥

-- the first queue of a region stands at its front, and each other one behind the one before
abbrev pub AreStacked : List QueueRow → Type 0
AreStacked rows =
    (k : ℕ) (row : QueueRow) (r : ℕ) → slice_get rows k ≡ Some row → row.region ≡ Some r
    → ((row.offset ≡ 0) × IsFirst rows k r) ⊎ IsBehind rows k row

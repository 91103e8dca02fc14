-- How the block virtualiser begins: it reads the disk's first block with its own buffer, and knows
-- the partitions once that came.
use Rattle.std.specs.Prelude.{◌≡◌, ◌&&◌, ℕ, nat_le, Bool, false, is_none, is_some, Option, None}
use Rattle.std.specs.Prelude.{Some, List, [], ◌∷◌, length, take}
use Rattle.cargo_core.specs.Blocks.{sector_bytes}
use Rattle.cargo_core.specs.declared.item.Body.{Body}
use Rattle.cargo_core.specs.declared.item.Body.TheVariants as Carried
use Rattle.cargo_core.specs.declared.item.Code.TheVariants as Asked
use Rattle.cargo_core.specs.declared.item.Item.TheVariants as ItemOf
use Rattle.cargo_core.specs.Pages.{Paged}
use Rattle.wire_core.specs.Deeds.{Cargo}
use Rattle.blk_mbr.specs.declared.part.Part.{Part}
use Rattle.blk_mbr.specs.Partitions.{part_of, partitions_of}
use Rattle.blk_virt.specs.declared.opening.Block.{Block}
use Rattle.blk_virt.specs.declared.opening.Opening.{Opening}
use Rattle.blk_virt.specs.Requests.{brings, page_named}

-- the read of the first block, in the virtualiser's own buffer, which begins at a device address
abbrev pub first_read : ℕ → Paged → Cargo
first_read base page = (
  ItemOf.Req (record { addr = base; block = 0; id = 0; count = 1; code = Asked.Read }),
  Carried.Page page,
)

-- a body is a page that has a sector
abbrev pub has_sector : Body → Bool
has_sector (Carried.Page page) = nat_le sector_bytes (length page.bytes)
has_sector (Carried.Lease lease) = false
has_sector Carried.Empty = false

-- the sector that a body brings
abbrev pub sector_of : Body → List ℕ
sector_of (Carried.Page page) = take sector_bytes page.bytes
sector_of (Carried.Lease lease) = []
sector_of Carried.Empty = []

-- the read isn't put yet
abbrev pub is_reading : Opening → Bool
is_reading o = is_some o.first

-- the partitions are known
abbrev pub is_open : Opening → Bool
is_open o = is_some o.block

-- a response is the one to the first read: it is at the driver, and the response brings its buffer
-- with a sector
abbrev pub is_first : Opening → Cargo → Bool
is_first o y = is_none o.first && (is_none o.block
    && (brings (Some o.own) y.1 && has_sector y.1))

-- what it keeps of the first block that came
abbrev pub block_of : ℕ → Cargo → Block
block_of disk_sectors y =
    record { entry = y; table = partitions_of (sector_of y.1) disk_sectors }

-- how it stands for what was sent to the driver and what was answered there: nothing yet; the read
-- alone; or its answer, which tells the partitions, and more
abbrev pub OpeningStands : Opening → Option Cargo → Option Block → Paged → List Cargo
    → List Cargo → Type 0
OpeningStands o (Some x) None start sent back =
    (x ≡ first_read o.base start) × (sent ≡ []) × (back ≡ [])
OpeningStands o None None start sent back =
    (sent ≡ first_read o.base start ∷ []) × (back ≡ [])
OpeningStands o None (Some b) start sent back =
    (y : Cargo) × (later : List Cargo) × (backs : List Cargo)
    × (sent ≡ first_read o.base start ∷ later) × (back ≡ y ∷ backs)
    × (b ≡ block_of o.disk_sectors y)
OpeningStands o (Some x) (Some b) start sent back = ⊥

-- the entries in its hand
abbrev pub block_cargo : Option Block → List Cargo
block_cargo None = []
block_cargo (Some b) = b.entry ∷ []

-- these are the partitions of the entries, by the first response: before it came, any are
abbrev pub KnowsParts : ℕ → List Cargo → (ℕ → Option Part) → Type 0
KnowsParts disk_sectors [] parts = Unit {0}
KnowsParts disk_sectors (y ∷ back) parts =
    (n : ℕ) → parts n ≡ part_of (sector_of y.1) disk_sectors n

-- a later response is out of turn: no request is at the driver for it, or it is without the buffer
-- that its request had
abbrev pub IsLate : List Cargo → List Cargo → Cargo → Type 0
IsLate [] back y = Unit {0}
IsLate (x ∷ sent) [] y = brings (page_named x.1) y.1 ≡ false
IsLate (x ∷ sent) (z ∷ back) y = IsLate sent back y

-- a response is out of turn, or is the first and brings no sector
abbrev pub IsOutOfTurn : List Cargo → List Cargo → Cargo → Type 0
IsOutOfTurn [] back y = Unit {0}
IsOutOfTurn (x ∷ sent) [] y = (brings (page_named x.1) y.1 && has_sector y.1) ≡ false
IsOutOfTurn (x ∷ sent) (z ∷ back) y = IsLate sent back y

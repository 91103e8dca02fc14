-- The block class by the number of its first queue, in the order of the layout's table: two queues
-- at the disk, two at the driver's other side, and then two for each client.
use Rattle.std.specs.Prelude.{◌≡◌, ◌+◌, ◌*◌, ◌/◌, ℕ, Some, List, [], ◌∷◌, length, slice_get}
use Rattle.cargo_core.specs.Blocks.{sector_bytes}
use Rattle.cargo_core.specs.declared.item.Ask.{Ask}
use Rattle.owner_law.specs.Pools.Places.{PoolAt, own_pool}
use Rattle.blk_law.specs.Sheets.Parts.{BlkPart, DiskDevice, BlkDriver, BlkVirt, BlkClient, Sharer}

-- where the block class stands: its first queue, the disk's image at the start, the pool of the
-- virtualiser's own buffer, and of each client its entry in the table of partitions, what it asks
-- and its pool by device addresses
pub record BlkPlace : Type 0 where
  pub first : ℕ
  pub image : List ℕ
  pub pool : PoolAt
  pub entries : List ℕ
  pub asks : List (List Ask)
  pub pools : List PoolAt

-- the entry, the requests and the pool of the client of a number
pub record IsBlkClientOf (place : BlkPlace) (k entry : ℕ) (asks : List Ask) (pool : PoolAt) :
    Type 0 where
  pub has_entry : slice_get place.entries k ≡ Some entry
  pub has_asks : slice_get place.asks k ≡ Some asks
  pub has_pool : slice_get place.pools k ≡ Some pool

-- the disk's part
abbrev pub disk_at : BlkPlace → BlkPart
disk_at place = DiskDevice place.first (place.first + 1) place.image

-- the driver's part: requests and responses
abbrev pub blk_driver_at : (first : ℕ) → BlkPart
blk_driver_at first = BlkDriver (record { input = first + 2; output = first }
    ∷ record { input = first + 1; output = first + 3 } ∷ [])

-- clients with these entries and pools, from a number on
abbrev pub sharers_from : (first k : ℕ) → List ℕ → List PoolAt → List Sharer
sharers_from first k [] pools = []
sharers_from first k (entry ∷ entries) [] = []
sharers_from first k (entry ∷ entries) (pool ∷ pools) =
    record { req = first + 4 + 2 * k; resp = first + 5 + 2 * k; entry = entry; pool = pool }
    ∷ sharers_from first (k + 1) entries pools

-- the virtualiser's part
abbrev pub virt_at : BlkPlace → BlkPart
virt_at place =
    BlkVirt (place.first + 2) (place.first + 3) (length place.image / sector_bytes) place.pool
    (sharers_from place.first 0 place.entries place.pools)

-- the part of the client of a number, with what it asks and its pool
abbrev pub blk_client_at : (first k : ℕ) → List Ask → PoolAt → BlkPart
blk_client_at first k asks pool =
    BlkClient (first + 4 + 2 * k) (first + 5 + 2 * k) asks (own_pool pool)

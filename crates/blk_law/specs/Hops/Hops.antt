-- How much is put to the queues of the block class, and how often its entries have to be moved.
use Rattle.std.specs.Prelude.{◌≡◌, ◌+◌, ◌*◌, ◌<◌, ℕ, List, length, sum_by}
use Rattle.cargo_core.specs.declared.item.Ask.{Ask}
use Rattle.wire_core.specs.declared.names.QueueRow.{QueueRow}
use Rattle.wire_core.specs.Journal.{Hostiles}
use Rattle.wire_core.specs.Marks.{sum_below}
use Rattle.play_core.specs.Moved.{Moved}
use Rattle.play_core.specs.Sheets.{Scene}
use Rattle.play_core.specs.Still.{Holds}
use Rattle.owner_law.specs.Pools.Places.{PoolAt}
use Rattle.blk_law.specs.Sheets.Numbers.{BlkPlace, IsBlkClientOf, disk_at, blk_driver_at, virt_at}
use Rattle.blk_law.specs.Sheets.Numbers.{blk_client_at}
use Rattle.blk_law.specs.Sheets.Table.{blk_sheet}

-- how many entries were put to the queues of the class, from the first on, where it has so many
-- clients
abbrev pub blk_put : (first count : ℕ) → Moved → ℕ
blk_put first count m = sum_below (λ i. length (m.sent (first + i))) (4 + 2 * count)

-- how often entries are moved, at most: the read of the first block to the disk and back, and each
-- request from its client to the disk and back
abbrev pub blk_moves : List (List Ask) → ℕ
blk_moves asks = 4 + 6 * sum_by length asks

-- the row of each actor of the class holds, at the layout's queues: two at the disk, two between
-- driver and virtualiser, and two for each client, which has something that it asks and a pool; and
-- each queue is there and has no hostile end
pub record IsBlock (scene : Scene) (hostile : Hostiles) (rows : List QueueRow) (m : Moved)
    (place : BlkPlace) : Type 0 where
  pub asks_many : length place.asks ≡ length place.entries
  pub pools_many : length place.pools ≡ length place.entries
  pub disk : (blk_sheet scene (disk_at place)).row m
  pub driver : (blk_sheet scene (blk_driver_at place.first)).row m
  pub virt : (blk_sheet scene (virt_at place)).row m
  pub client : (k entry : ℕ) (asks : List Ask) (pool : PoolAt)
      → IsBlkClientOf place k entry asks pool
      → (blk_sheet scene (blk_client_at place.first k asks pool)).row m
  pub holds : (i : ℕ) → i < 4 + 2 * length place.entries → Holds hostile rows (place.first + i) 0

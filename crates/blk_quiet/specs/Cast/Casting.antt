-- The block class in a system: which actors stand at the layout's queues, told by the number of the
-- class's first queue, what is asked of them, and what clients may put.
use Rattle.std.specs.Prelude.{◌≡◌, ◌+◌, ◌*◌, ◌<◌, ◌≤◌, ℕ, true, false, Some, List, length, map}
use Rattle.std.specs.Prelude.{slice_get}
use Rattle.cargo_core.specs.Blocks.{block_bytes}
use Rattle.cargo_core.specs.Items.{kind_of}
use Rattle.cargo_core.specs.Ranges.{AreRanges}
use Rattle.cargo_core.specs.declared.item.Ask.{Ask}
use Rattle.cargo_core.specs.declared.item.Body.{Body}
use Rattle.cargo_core.specs.declared.item.Body.TheVariants as Carried
use Rattle.cargo_core.specs.declared.item.QueueKind.TheVariants as Kind
use Rattle.wire_core.specs.Deeds.{Cargo}
use Rattle.wire_core.specs.Lists.{Passed}
use Rattle.play_core.specs.Names.{Wild}
use Rattle.turn_kit.specs.declared.pipe.Pipe.{Pipe}
use Rattle.pipe_driver.specs.Drivers.{PipesRow}
use Rattle.pipe_driver.specs.Lengths.{two_pipes}
use Rattle.pipe_driver.specs.declared.pipes.Pipes.{Pipes}
use Rattle.buffer_kit.specs.Virtualising.{from_queues, to_queues}
use Rattle.net_law.specs.Receiving.{HandsOver}
use Rattle.owner_law.specs.Pools.Places.{PoolAt}
use Rattle.device_model.specs.Disk.Disks.{DiskRow}
use Rattle.device_model.specs.declared.disk.DiskDevice.{DiskDevice}
use Rattle.client_programs.specs.Blk.Clients.{BlkClientRow}
use Rattle.client_programs.specs.declared.blk.BlkClient.{BlkClient}
use Rattle.blk_virt.specs.Desks.{holders}
use Rattle.blk_virt.specs.Requests.{is_bad, range_of}
use Rattle.blk_virt.specs.Virtualising.{BlkVirtRow}
use Rattle.blk_virt.specs.declared.requests.Holder.{Holder}
use Rattle.blk_virt.specs.declared.virtualiser.BlkVirt.{BlkVirt}
use Rattle.blk_law.specs.Sheets.Numbers.{BlkPlace, IsBlkClientOf, disk_at, blk_driver_at, virt_at}
use Rattle.blk_law.specs.Sheets.Numbers.{blk_client_at}
use Rattle.blk_law.specs.Sheets.Playing.{disk_part, blk_driver_part, virt_part, blk_client_part}

-- who has a pool's buffers, whatever its entry in the table of partitions
abbrev pub holder_of : PoolAt → Holder
holder_of p = record {
  pool = record { 0 = p.number };
  buffers = p.buffers;
  base = p.base;
  partition = 0;
}

-- a page takes eight blocks, the most that a request moves
abbrev pub IsWhole : Body → Type 0
IsWhole (Carried.Page page) = 8 * block_bytes ≤ length page.bytes
IsWhole (Carried.Lease lease) = Unit {0}
IsWhole Carried.Empty = Unit {0}

-- a page is one of a pool's buffers
abbrev pub IsOfPool : PoolAt → Body → Type 0
IsOfPool pool (Carried.Page page) = (page.pool.0 ≡ pool.number) × (page.no < pool.buffers)
IsOfPool pool (Carried.Lease lease) = Unit {0}
IsOfPool pool Carried.Empty = Unit {0}

-- an entry asks for blocks by way of one of a pool's buffers, or asks for none
pub record IsRequest (pool : PoolAt) (x : Cargo) : Type 0 where
  pub good : is_bad (holder_of pool) x ≡ false
  pub whole : IsWhole x.1
  pub own : IsOfPool pool x.1

-- each of these entries does
abbrev pub AreRequests : PoolAt → List Cargo → Type 0
AreRequests pool xs = (k : ℕ) (x : Cargo) → slice_get xs k ≡ Some x → IsRequest pool x

-- a client of a number has its queues, what it asks and its pool, and its row holds
pub record IsAskingClient (place : BlkPlace) (k : ℕ) (asks : List Ask) (pool : PoolAt)
    (c : BlkClient) (passed : Passed) : Type 0 where
  pub part : blk_client_part c ≡ blk_client_at place.first k asks pool
  pub row : BlkClientRow c passed

-- a disk, its driver and the virtualiser stand at their queues; queues hand over what was put, which
-- at the driver are requests; the disk has some blocks; and no two clients' ranges meet
pub record IsBlkCast (place : BlkPlace) (passed : Passed) : Type 0 where
  pub asks_many : length place.asks ≡ length place.entries
  pub pools_many : length place.pools ≡ length place.entries
  pub hands_over : HandsOver passed
  pub requests : (j : ℕ) (x : Cargo) → slice_get (passed.sent (place.first + 2)) j ≡ Some x
      → kind_of x.0 ≡ Kind.Req
  pub disk : DiskDevice
  pub disk_is : disk_part place.image disk ≡ disk_at place
  pub disk_row : DiskRow place.image disk passed
  pub driver : Pipes Pipe
  pub driver_is : blk_driver_part (two_pipes driver) ≡ blk_driver_at place.first
  pub driver_row : PipesRow (two_pipes driver) passed
  pub virt : BlkVirt
  pub virt_is : virt_part virt ≡ virt_at place
  pub virt_row : BlkVirtRow virt passed
  pub from_each : length (from_queues virt.ends) ≡ length (holders virt.work.desk)
  pub to_each : length (to_queues virt.ends) ≡ length (holders virt.work.desk)
  pub apart : AreRanges (map range_of (holders virt.work.desk))
  pub blocks : ℕ
  pub some_blocks : 1 ≤ blocks
  pub image_long : length place.image ≡ blocks * block_bytes
  pub some : (k : ℕ) (pool : PoolAt) → slice_get place.pools k ≡ Some pool → 1 ≤ pool.buffers

-- each client put requests in its own buffers alone, where no hostile actor has an end of its
-- queue
abbrev pub CalmAsk : Wild → BlkPlace → Passed → Type 0
CalmAsk wild place passed = (k : ℕ) (pool : PoolAt) → slice_get place.pools k ≡ Some pool
    → wild (place.first + 4 + 2 * k) ≡ false
    → AreRequests pool (passed.sent (place.first + 4 + 2 * k))

-- where one has, each buffer of the client that was put there takes eight blocks
abbrev pub WildWhole : Wild → BlkPlace → Passed → Type 0
WildWhole wild place passed = (k : ℕ) (pool : PoolAt) → slice_get place.pools k ≡ Some pool
    → wild (place.first + 4 + 2 * k) ≡ true → (j : ℕ) (x : Cargo)
    → slice_get (passed.sent (place.first + 4 + 2 * k)) j ≡ Some x → IsOfPool pool x.1
    → IsWhole x.1

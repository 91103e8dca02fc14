-- Which part each actor of the block class plays, and what the laws ask of what passed at its ends.
use Rattle.std.specs.Prelude.{◌≡◌, ◌≤◌, ◌/◌, ℕ, false, None, Some, List, [], ◌∷◌, All, length, map}
use Rattle.std.specs.Prelude.{take, slice_get}
use Rattle.cargo_core.specs.Blocks.{sector_bytes, blk_buffer_bytes}
use Rattle.cargo_core.specs.Ranges.{AreRanges}
use Rattle.wire_core.specs.declared.names.QueueId.{QueueId}
use Rattle.wire_core.specs.Deeds.{Cargo}
use Rattle.wire_core.specs.Lists.{Passed}
use Rattle.turn_kit.specs.declared.pipe.Pipe.{Pipe}
use Rattle.buffer_kit.specs.Virtualising.{from_queues, to_queues}
use Rattle.device_model.specs.Disk.Disks as disk
use Rattle.device_model.specs.declared.disk.DiskDevice.{DiskDevice}
use Rattle.client_programs.specs.Blk.Clients.{BlkClientRow, req_queue, resp_queue}
use Rattle.client_programs.specs.declared.blk.BlkClient.{BlkClient}
use Rattle.blk_virt.specs.Desks.{holders}
use Rattle.blk_virt.specs.Openings.{sector_of}
use Rattle.blk_virt.specs.Requests.{is_bad, page_named, range_of}
use Rattle.blk_virt.specs.Virtualising.{BlkVirtRow}
use Rattle.blk_virt.specs.declared.requests.Holder.{Holder}
use Rattle.blk_virt.specs.declared.virtualiser.BlkVirt.{BlkVirt}
use Rattle.owner_law.specs.Pools.Places.{PoolAt}
use Rattle.net_law.specs.Parts.Playing.{way_of}
use Rattle.blk_law.specs.Sheets.Parts.{BlkPart, DiskDevice as DiskPart, BlkDriver as DriverPart}
use Rattle.blk_law.specs.Sheets.Parts.{BlkVirt as VirtPart, BlkClient as ClientPart, Sharer}

-- a disk's part, with the image that it had at the start
abbrev pub disk_part : (start : List ℕ) → DiskDevice → BlkPart
disk_part start d = DiskPart (disk.req d) (disk.resp d) start

-- a driver's part
abbrev pub blk_driver_part : List Pipe → BlkPart
blk_driver_part ps = DriverPart (map way_of ps)

-- the pool of a client's buffers
abbrev pub holder_pool : Holder → PoolAt
holder_pool h = record {
  number = h.pool.0;
  base = h.base;
  buffers = h.buffers;
  size = blk_buffer_bytes;
}

-- clients with these pools and queues
abbrev pub sharers : List Holder → (from to : List QueueId) → List Sharer
sharers [] from to = []
sharers (h ∷ hs) [] to = []
sharers (h ∷ hs) (q ∷ from) [] = []
sharers (h ∷ hs) (q ∷ from) (r ∷ to) =
    record { req = q.0; resp = r.0; entry = h.partition; pool = holder_pool h }
    ∷ sharers hs from to

-- a virtualiser's part
abbrev pub virt_part : BlkVirt → BlkPart
virt_part v = VirtPart v.ends.output.queue.0 v.ends.input.queue.0 v.work.opening.disk_sectors
    (record {
      number = v.work.opening.own.pool.0;
      base = v.work.opening.base;
      buffers = 1;
      size = blk_buffer_bytes;
    })
    (sharers (holders v.work.desk) (from_queues v.ends) (to_queues v.ends))

-- a client's part
abbrev pub blk_client_part : BlkClient → BlkPart
blk_client_part c = ClientPart (req_queue c) (resp_queue c) c.asking.script.items
    (record {
      number = c.asking.pool.0;
      base = 0;
      buffers = c.asking.buffers;
      size = blk_buffer_bytes;
    })

-- a disk with this image at the start took nothing out of turn
pub record DiskInTurn (start : List ℕ) (d : DiskDevice) (passed : Passed) : Type 0 where
  pub free : d.stray ≡ None
  pub in_turn : (row : disk.DiskRow start d passed) → row.stray ≡ []

-- a virtualiser of a disk with this image took nothing out of turn, and no more responses than it
-- put requests, of which the first brought the image's first sector; each read and write came at a
-- buffer of its client; no two clients' ranges meet, and each has a queue each way
pub record VirtInTurn (image : List ℕ) (v : BlkVirt) (passed : Passed) : Type 0 where
  pub free : v.work.stray ≡ None
  pub in_turn : (row : BlkVirtRow v passed) → row.stray ≡ []
  pub answered : length (passed.taken v.ends.input.queue.0)
      ≤ length (passed.sent v.ends.output.queue.0)
  pub sector : (y : Cargo) → slice_get (passed.taken v.ends.input.queue.0) 0 ≡ Some y
      → sector_of y.1 ≡ take sector_bytes image
  pub sectors : v.work.opening.disk_sectors ≡ length image / sector_bytes
  pub good : (k : ℕ) (h : Holder) (q : QueueId) → slice_get (holders v.work.desk) k ≡ Some h
      → slice_get (from_queues v.ends) k ≡ Some q
      → All (λ (x : Cargo). is_bad h x ≡ false) (passed.taken q.0)
  pub apart : AreRanges (map range_of (holders v.work.desk))
  pub from_each : length (from_queues v.ends) ≡ length (holders v.work.desk)
  pub to_each : length (to_queues v.ends) ≡ length (holders v.work.desk)

-- a client that has a buffer took nothing out of turn, and each response brought the buffer of its
-- request, where that had one
pub record ClientInTurn (c : BlkClient) (passed : Passed) : Type 0 where
  pub some : 1 ≤ c.asking.buffers
  pub free : c.stray ≡ None
  pub in_turn : (row : BlkClientRow c passed) → row.stray ≡ []
  pub brings : (k : ℕ) (x y : Cargo) → slice_get (passed.sent (req_queue c)) k ≡ Some x
      → slice_get (passed.taken (resp_queue c)) k ≡ Some y
      → page_named y.1 ≡ page_named x.1

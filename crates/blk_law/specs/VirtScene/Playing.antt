-- What the laws on the block virtualiser ask of what passed, where some of its clients may be
-- hostile.
use Rattle.std.specs.Prelude.{◌≡◌, ◌≤◌, ◌/◌, ℕ, true, false, None, Some, List, [], All, length}
use Rattle.std.specs.Prelude.{map, take, slice_get}
use Rattle.cargo_core.specs.Blocks.{sector_bytes}
use Rattle.cargo_core.specs.Lists.{IsPrefix}
use Rattle.cargo_core.specs.Ranges.{AreRanges}
use Rattle.wire_core.specs.declared.names.QueueId.{QueueId}
use Rattle.wire_core.specs.Deeds.{Cargo}
use Rattle.wire_core.specs.Lists.{Passed}
use Rattle.play_core.specs.Names.{Names, Wild, names_of}
use Rattle.buffer_kit.specs.Virtualising.{from_queues, to_queues}
use Rattle.blk_virt.specs.Desks.{holders}
use Rattle.blk_virt.specs.Openings.{sector_of}
use Rattle.blk_virt.specs.Requests.{is_bad, range_of}
use Rattle.blk_virt.specs.Virtualising.{BlkVirtRow}
use Rattle.blk_virt.specs.declared.requests.Holder.{Holder}
use Rattle.blk_virt.specs.declared.virtualiser.BlkVirt.{BlkVirt}

-- the names of what came from the hostile clients are told, and perhaps more
abbrev pub TellsOf : Wild → Names → BlkVirt → Passed → Type 0
TellsOf wild names v passed = (k : ℕ) (q : QueueId) → slice_get (from_queues v.ends) k ≡ Some q
    → wild q.0 ≡ true → IsPrefix (names_of (passed.taken q.0)) (names q.0)

-- a virtualiser of a disk with this image took nothing out of turn, and no more responses than it
-- put requests, of which the first brought the image's first sector; each read and write of a
-- client that isn't hostile came at a buffer of its own; no two clients' ranges meet, and each has
-- a queue each way
pub record BothInTurn (wild : Wild) (image : List ℕ) (v : BlkVirt) (passed : Passed) :
    Type 0 where
  pub free : v.work.stray ≡ None
  pub in_turn : (row : BlkVirtRow v passed) → row.stray ≡ []
  pub answered : length (passed.taken v.ends.input.queue.0)
      ≤ length (passed.sent v.ends.output.queue.0)
  pub sector : (y : Cargo) → slice_get (passed.taken v.ends.input.queue.0) 0 ≡ Some y
      → sector_of y.1 ≡ take sector_bytes image
  pub sectors : v.work.opening.disk_sectors ≡ length image / sector_bytes
  pub good : (k : ℕ) (h : Holder) (q : QueueId) → slice_get (holders v.work.desk) k ≡ Some h
      → slice_get (from_queues v.ends) k ≡ Some q → wild q.0 ≡ false
      → All (λ (x : Cargo). is_bad h x ≡ false) (passed.taken q.0)
  pub apart : AreRanges (map range_of (holders v.work.desk))
  pub from_each : length (from_queues v.ends) ≡ length (holders v.work.desk)
  pub to_each : length (to_queues v.ends) ≡ length (holders v.work.desk)

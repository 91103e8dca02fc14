-- What a block client must get: a replay of its requests on its own partition alone.
use Rattle.std.specs.Prelude.{◌≡◌, ℕ, ◌+◌, ◌*◌, ◌/◌, Bool, true, Option, Some, None, List, [], ◌∷◌}
use Rattle.std.specs.Prelude.{length, take}
use Rattle.cargo_core.specs.Blocks.{block_bytes, sector_bytes}
use Rattle.cargo_core.specs.declared.item.Ask.{Ask}
use Rattle.cargo_core.specs.declared.item.Reply.{Reply}
use Rattle.cargo_core.specs.declared.item.Code.{Code}
use Rattle.cargo_core.specs.declared.item.Code.TheVariants as Asked
use Rattle.cargo_core.specs.declared.item.BlkStatus.{BlkStatus}
use Rattle.cargo_core.specs.declared.item.BlkStatus.TheVariants as Answered
use Rattle.class_expect.specs.BlkExpect.BlkKit.Blocks.{has_blocks, blocks_at, with_blocks, moved_blocks}
use Rattle.blk_mbr.specs.declared.part.Part.{Part}
use Rattle.blk_mbr.specs.Partitions.{part_of}
use Rattle.class_expect.specs.BlkExpect.Judging.{status_of}

-- the bytes of a client's blocks: those of its partition
abbrev pub partition_bytes : Option Part → List ℕ → List ℕ
partition_bytes None image = []
partition_bytes (Some part) image = blocks_at image part.first_block part.blocks

-- these are as many bytes as a client's partition has
abbrev pub HasBytes : Option Part → List ℕ → Type 0
HasBytes None bytes = Unit {0}
HasBytes (Some part) bytes = length bytes ≡ part.blocks * block_bytes

-- a client's partition is all in an image
abbrev pub has_partition : Option Part → List ℕ → Bool
has_partition None image = true
has_partition (Some part) image = has_blocks image part.first_block part.blocks

-- how a client's request is judged, whose buffer is always its own
abbrev pub status_to : Option Part → Ask → BlkStatus
status_to part ask = status_of true part ask.code ask.block ask.count

-- what a read that went well brings
abbrev pub bytes_read : Code → List ℕ → Ask → List ℕ
bytes_read Asked.Read bytes ask = blocks_at bytes ask.block ask.count
bytes_read Asked.Write bytes ask = []
bytes_read Asked.Flush bytes ask = []
bytes_read Asked.Barrier bytes ask = []

-- what a write that went well leaves
abbrev pub bytes_left : Code → List ℕ → Ask → List ℕ
bytes_left Asked.Read bytes ask = bytes
bytes_left Asked.Write bytes ask =
    with_blocks bytes ask.block (take (ask.count * block_bytes) ask.fill)
bytes_left Asked.Flush bytes ask = bytes
bytes_left Asked.Barrier bytes ask = bytes

-- the reply to a request with this id that was judged so
abbrev pub reply_of : BlkStatus → List ℕ → ℕ → Ask → Reply
reply_of Answered.Ok bytes id ask = record {
  resp = record { status = Answered.Ok; count = moved_blocks ask.code ask.count; id = id };
  bytes = bytes_read ask.code bytes ask;
}
reply_of Answered.Invalid bytes id ask =
    record { resp = record { status = Answered.Invalid; count = 0; id = id }; bytes = [] }
reply_of Answered.NoDevice bytes id ask =
    record { resp = record { status = Answered.NoDevice; count = 0; id = id }; bytes = [] }

-- the bytes of the partition after a request that was judged so
abbrev pub left_by : BlkStatus → List ℕ → Ask → List ℕ
left_by Answered.Ok bytes ask = bytes_left ask.code bytes ask
left_by Answered.Invalid bytes ask = bytes
left_by Answered.NoDevice bytes ask = bytes

-- the replies to requests with rising ids, from this one on: each is answered on the bytes that the
-- ones before it left
abbrev pub replies_from : Option Part → List ℕ → ℕ → List Ask → List Reply
replies_from part bytes id [] = []
replies_from part bytes id (ask ∷ asks) = reply_of (status_to part ask) bytes id ask
    ∷ replies_from part (left_by (status_to part ask) bytes ask) (id + 1) asks

-- the partition of an entry, by its number, of a disk with this image
abbrev pub partition_in : List ℕ → ℕ → Option Part
partition_in image entry = part_of (take sector_bytes image) (length image / sector_bytes) entry

-- what a client with the partition of an entry must get for its requests, by the image of the disk
-- at the start: whatever others ask for doesn't matter
abbrev pub replies_of : List ℕ → ℕ → List Ask → List Reply
replies_of image entry asks =
    replies_from (partition_in image entry)
    (partition_bytes (partition_in image entry) image) 0 asks

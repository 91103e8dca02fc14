-- How the block virtualiser judges a request, by the partition of its client.
use Rattle.std.specs.Prelude.{ℕ, ◌+◌, ◌&&◌, nat_le, Bool, Option, Some, None, if◌then◌else◌}
use Rattle.cargo_core.specs.declared.item.Code.{Code}
use Rattle.cargo_core.specs.declared.item.Code.TheVariants as Asked
use Rattle.cargo_core.specs.declared.item.BlkStatus.{BlkStatus}
use Rattle.cargo_core.specs.declared.item.BlkStatus.TheVariants as Answered
use Rattle.blk_mbr.specs.declared.part.Part.{Part}

-- so many blocks of a partition can be moved, from one on, by way of a buffer: it is the client's
-- own, there are from 1 to 8 of them, and all are in the partition
abbrev pub can_move : Bool → ℕ → ℕ → ℕ → Bool
can_move own blocks block count =
    own && (nat_le 1 count && (nat_le count 8 && nat_le (block + count) blocks))

-- how a request of a client with a partition of so many blocks is answered
abbrev pub status_within : Bool → ℕ → Code → ℕ → ℕ → BlkStatus
status_within own blocks Asked.Read block count =
    if can_move own blocks block count then Answered.Ok else Answered.Invalid
status_within own blocks Asked.Write block count =
    if can_move own blocks block count then Answered.Ok else Answered.Invalid
status_within own blocks Asked.Flush block count = Answered.Ok
status_within own blocks Asked.Barrier block count = Answered.Ok

-- how a request is answered, by whether its buffer is the client's own, the client's partition, the
-- request's code, its first block there and its number of blocks; those that are answered Ok are
-- for the disk
abbrev pub status_of : Bool → Option Part → Code → ℕ → ℕ → BlkStatus
status_of own None code block count = Answered.NoDevice
status_of own (Some part) code block count = status_within own part.blocks code block count

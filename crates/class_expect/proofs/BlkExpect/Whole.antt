use Rattle.std.proofs.Common.{◌≡◌, ◌+◌, ◌*◌, ◌/◌, ℕ, true, Option, Some, None, List, length, refl, arith}
use Rattle.std.proofs.lemmas.Bool.{le-leb}
use Rattle.blk_mbr.specs.declared.part.Part.{Part}
use Rattle.blk_mbr.specs.Partitions.{IsPartition}
use Rattle.class_expect.specs.BlkExpect.Replies.{has_partition}

-- a partition of eight sectors a block is all in an image of so many sectors
pub whole : (image sector : List ℕ) (entry : ℕ) (part : Option Part) → ((p : Part) → part ≡ Some p → IsPartition sector (length image / 512) entry p) → has_partition part image ≡ true
whole image sector entry None h = refl
whole image sector entry (Some p) h =
    let is = h p refl in
    let w = is.whole in
    let begins = is.begins in
    let on_disk = is.on_disk in
    let least = w.1 in
    let parts = w.2 in
    le-leb ((p.first_block + p.blocks) * 4096) (length image) (omega (arith, begins, on_disk, least, parts))

use Rattle.std.proofs.Common.{◌≡◌, ◌+◌, ◌*◌, ◌≤◌, ◌<◌, ℕ, List, arith}
use Rattle.cargo_core.specs.declared.item.BlkReq.{BlkReq}
use Rattle.cargo_core.specs.declared.item.Code.{Code}
use Rattle.cargo_core.specs.declared.item.Code.TheVariants as Asked
use Rattle.cargo_core.specs.declared.item.Item.TheVariants as ItemOf
use Rattle.blk_mbr.specs.declared.part.Part.{Part}
use Rattle.blk_mbr.specs.Sectors.{entry_of}
use Rattle.blk_mbr.specs.Partitions.{Holds, IsPartition}
use Rattle.blk_mbr.proofs.Law.{law_to}
use Rattle.blk_law.specs.Runs.{ArePartsApart, StaysIn, TouchesNone}

-- the first sector of a partition's block is its entry's
holds_block : (sector : List ℕ) (disk n : ℕ) (part : Part) (b : ℕ) → IsPartition sector disk n part → part.first_block ≤ b → b < part.first_block + part.blocks → Holds (entry_of sector n) (8 * b)
holds_block sector disk n part b is low high =
    let begins = is.begins in
    let parts = is.whole.2 in
    (omega (arith, begins, low), omega (arith, begins, parts, high))

leaves_by : (c : Code) (sector : List ℕ) (disk j k : ℕ) (one other : Part) → j < 4 → k < 4 → (j ≡ k → ⊥) → IsPartition sector disk j one → IsPartition sector disk k other → (r : BlkReq) → StaysIn c other.first_block other.blocks r → TouchesNone c one.first_block one.blocks r
leaves_by Asked.Read sector disk j k one other few less ne p q r stays = tt
leaves_by Asked.Flush sector disk j k one other few less ne p q r stays = tt
leaves_by Asked.Barrier sector disk j k one other few less ne p q r stays = tt
leaves_by Asked.Write sector disk j k one other few less ne p q r stays = λ b from to low high.
    let low' : other.first_block ≤ b = omega (arith, stays.0, from) in
    let high' : b < other.first_block + other.blocks = omega (arith, stays.1, to) in
    p.apart j k (8 * b) few less ne p.used q.used (holds_block sector disk j one b p low high) (holds_block sector disk k other b q low' high')

pub parts_apart : (sector : List ℕ) (disk : ℕ) → ArePartsApart sector disk
parts_apart sector disk j k one other few less ne p q (ItemOf.Req r, body) inside = leaves_by r.code sector disk j k one other few less ne (law_to sector disk j one p) (law_to sector disk k other q) r inside
parts_apart sector disk j k one other few less ne p q (ItemOf.Net d, body) inside = tt
parts_apart sector disk j k one other few less ne p q (ItemOf.Byte b, body) inside = tt
parts_apart sector disk j k one other few less ne p q (ItemOf.Resp r, body) inside = tt

use Rattle.std.proofs.Common.{length}
use Rattle.blk_mbr.proofs.partitions.+are_apart.Given as goal

abbrev pub decreases-are_apart : goal.decreases-are_apart
decreases-are_apart l = length l.entries.now

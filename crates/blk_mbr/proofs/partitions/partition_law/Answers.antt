use Rattle.blk_mbr.proofs.Law.{law_to, law_from}
use Rattle.blk_mbr.proofs.partitions.partition_law.Goals as goal

pub returns : goal.returns
returns c = λ sector disk n part few. (law_to sector disk n part, law_from sector disk n part)

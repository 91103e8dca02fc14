use Rattle.std.proofs.Common.{◌/◌, length, sym, ap, ◌∙◌}
use Rattle.blk_mbr.specs.Partitions.{part_of}
use Rattle.class_expect.proofs.BlkExpect.Whole.{whole}
use Rattle.class_expect.proofs.blk_expect.replies.partition_in.Goals as goal

pub returns-clause-part : goal.returns-clause-part
returns-clause-part c = c.part.ensures.of c.in-Some.sector.now (length c.args.image.now / 512) c.read_mbr-partitions.ensures ∙ ap (λ s. part_of s (length c.args.image.now / 512) c.args.entry) c.in-Some.ensures.cases.same

pub returns-clause-within : goal.returns-clause-within
returns-clause-within c = whole c.args.image.now c.in-Some.sector.now c.args.entry c.part.result (λ p is. (c.partition_law.ensures c.in-Some.sector.now (length c.args.image.now / 512) c.args.entry p c.requires.entry).0 (sym (c.part.ensures.of c.in-Some.sector.now (length c.args.image.now / 512) c.read_mbr-partitions.ensures) ∙ is))

use Rattle.std.proofs.Common.{None, ap, ◌∙◌, get_or}
use Rattle.blk_mbr.specs.Partitions.{part_of}
use Rattle.blk_mbr.proofs.Law.{of_four}
use Rattle.blk_mbr.proofs.partitions.Partitions.part.Goals as goal

pub returns-clause-of : goal.returns-clause-of
returns-clause-of c = λ sector disk is. ap (λ ps. get_or ps c.args.entry None) (c.self.view_is ∙ is) ∙ of_four (part_of sector disk) c.args.entry None c.requires

use Rattle.std.proofs.Common.{sym, ap, ◌∙◌, arith}
use Rattle.buffer_kit.proofs.ManyClients.{some_eq}
use Rattle.blk_virt.specs.declared.opening.Block.{Block}
use Rattle.blk_virt.specs.Openings.{sector_of}
use Rattle.blk_virt.proofs.opening.Opening.part.Goals as goal

pub returns-in-Some-clause-part : goal.returns-in-Some-clause-part
returns-in-Some-clause-part c = λ y is. c.part.ensures.of (sector_of y.1) c.args.self.now.disk_sectors (ap (λ (b : Block). b.table) (some_eq (sym c.in-Some.is ∙ is)))

pub returns-in-Some-clause-within : goal.returns-in-Some-clause-within
returns-in-Some-clause-within c = λ p is.
    let t = c.requires.told c.in-Some.block c.in-Some.is in
    let of = c.part.ensures.of (sector_of t.0.1) c.args.self.now.disk_sectors (ap (λ (b : Block). b.table) t.1) in
    let h = (c.partition_law.ensures (sector_of t.0.1) c.args.self.now.disk_sectors c.args.partition p c.requires.entry).0 (sym of ∙ is) in
    omega (arith, h.begins, h.whole.1, h.whole.2, h.on_disk)

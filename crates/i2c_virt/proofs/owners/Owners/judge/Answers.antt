use Rattle.std.proofs.Common.{◌∙◌, ap}
use Rattle.i2c_virt.specs.Owners.{judged}
use Rattle.i2c_virt.proofs.Owning.{knows_more, judged_is, read_there, written_at}
use Rattle.i2c_virt.proofs.owners.Owners.judge.Goals as goal

pub returns-clause-verdict : goal.returns-clause-verdict
returns-clause-verdict c = λ requests bytes k.
    c.judged.ensures ∙ judged_is c.args.self.now.clients.items requests c.args.client c.args.head.operation c.args.head.address c.args.head.count bytes c.index-owner.result.now k c.requires.within
    (read_there c.args.self.now.clients.items c.args.head.address c.from-place.result c.index-owner.result.now c.requires.size c.from-place.ensures c.requires.within c.index-owner.ensures)

pub returns-clause-knows : goal.returns-clause-knows
returns-clause-knows c = λ requests bytes k.
    written_at c.args.self.now.clients.items c.args.head.address c.from-place.result _ c.owner_then.result _ c.from-place.ensures c.owner_then.ensures
    (knows_more c.args.self.now.clients.items requests c.args.client c.args.head.operation c.args.head.address c.args.head.count bytes c.index-owner.result.now k c.requires.within
    (read_there c.args.self.now.clients.items c.args.head.address c.from-place.result c.index-owner.result.now c.requires.size c.from-place.ensures c.requires.within c.index-owner.ensures))

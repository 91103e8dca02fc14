use Rattle.std.proofs.lemmas.Option.{slice_get_within}
use Rattle.blk_virt.proofs.Desking.{first_is}
use Rattle.blk_virt.proofs.desk.Desk.call.Goals as goal

pub returns-clause-there : goal.returns-clause-there
returns-clause-there c =
    let f = first_is c.args.self.now c.requires.desk c.in-Some.place c.pop.new.self.shown c.in-Some.ensures.shown in
    slice_get_within c.args.self.now.clients.items c.in-Some.place f.0 f.1

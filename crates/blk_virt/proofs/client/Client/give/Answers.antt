use Rattle.wire_core.specs.Deeds.{put_of}
use Rattle.blk_virt.proofs.Moving.{give_moved, put_cases, there_is}
use Rattle.blk_virt.proofs.client.Client.give.Goals as goal

pub returns-clause-moved : goal.returns-clause-moved
returns-clause-moved g c = λ part.
    let a = there_is c.args.self.now.held c.requires.some in
    give_moved c.args.self.now c.requires.work a.0 a.1 part c.step_to_client.new.load (put_of c.step_to_client.result c.args.self.now.held)
    (put_cases c.args.self.now.held (put_of c.step_to_client.result c.args.self.now.held) c.step_to_client.new.load a.0 a.1 c.step_to_client.ensures.load)

use Rattle.buffer_kit.proofs.VirtFits.{from_moved}
use Rattle.buffer_kit.proofs.VirtTurns.{posted_from}
use Rattle.buffer_kit.proofs.virt_ends.VirtEnds.step_from_client.Goals as goal

pub returns-clause-fits : goal.returns-clause-fits
returns-clause-fits g c = from_moved (g.W.Wires.ends c.args.wires.now) (g.W.Wires.ends c.step.new.wires) c.step.result.0 c.step.ensures.moves g.K.Carry.kinds c.args.self.now c.requires.fits c.step.new.self c.args.k c.step.ensures.queues c.step.ensures.role c.step.ensures.on c.step.ensures.fits

pub returns-clause-posted : goal.returns-clause-posted
returns-clause-posted g c = posted_from c.args.self.now c.step.new.self c.args.k c.args.need c.step.result.0 c.step.ensures.posted

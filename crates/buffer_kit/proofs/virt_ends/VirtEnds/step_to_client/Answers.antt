use Rattle.std.proofs.Common.{is_some}
use Rattle.buffer_kit.proofs.VirtFits.{to_moved}
use Rattle.buffer_kit.proofs.VirtTurns.{posted_to}
use Rattle.buffer_kit.proofs.virt_ends.VirtEnds.step_to_client.Goals as goal

pub returns-clause-fits : goal.returns-clause-fits
returns-clause-fits g c = to_moved (g.W.Wires.ends c.args.wires.now) (g.W.Wires.ends c.step.new.wires) c.step.result c.step.ensures.moves g.K.Carry.kinds c.args.self.now c.requires.fits c.step.new.self c.args.k c.step.ensures.queues c.step.ensures.role c.step.ensures.on c.step.ensures.fits

pub returns-clause-posted : goal.returns-clause-posted
returns-clause-posted g c = posted_to c.args.self.now c.step.new.self c.args.k (is_some c.args.load.now) c.step.result c.step.ensures.posted

use Rattle.net_switch.proofs.Fits.{come_moved, takes_told}
use Rattle.net_switch.proofs.Rounds.{posted_come}
use Rattle.net_switch.proofs.ends.SwitchEnds.step_come.Goals as goal

pub returns-clause-fits : goal.returns-clause-fits
returns-clause-fits g c = come_moved (g.W.Wires.ends c.args.wires.now) (g.W.Wires.ends c.step.new.wires) c.step.result.0 c.step.ensures.moves c.args.self.now c.requires.fits c.step.new.self c.args.k c.step.ensures.queues c.step.ensures.role c.step.ensures.on c.step.ensures.fits

pub returns-clause-posted : goal.returns-clause-posted
returns-clause-posted g c = posted_come c.args.self.now c.args.k c.args.need c.step.result.0 c.step.new.self c.step.ensures.posted

pub returns-clause-takes_one : goal.returns-clause-takes_one
returns-clause-takes_one g c = takes_told c.step.result.0.op c.step.result.1 c.step.ensures.taken

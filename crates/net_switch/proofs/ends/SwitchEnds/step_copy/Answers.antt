use Rattle.std.proofs.Common.{is_some}
use Rattle.net_switch.proofs.Fits.{copy_moved, takes_nothing}
use Rattle.net_switch.proofs.Rounds.{posted_copy}
use Rattle.net_switch.proofs.ends.SwitchEnds.step_copy.Goals as goal

pub returns-clause-fits : goal.returns-clause-fits
returns-clause-fits g c = copy_moved (g.W.Wires.ends c.args.wires.now) (g.W.Wires.ends c.step.new.wires) c.step.result c.step.ensures.moves c.args.self.now c.requires.fits c.step.new.self c.args.k c.step.ensures.queues c.step.ensures.role c.step.ensures.on c.step.ensures.fits

pub returns-clause-posted : goal.returns-clause-posted
returns-clause-posted g c = posted_copy c.args.self.now c.args.k (is_some c.args.load.now) c.step.result c.step.new.self c.step.ensures.posted

pub returns-clause-takes_none : goal.returns-clause-takes_none
returns-clause-takes_none g c = takes_nothing c.step.result.op c.step.ensures.role

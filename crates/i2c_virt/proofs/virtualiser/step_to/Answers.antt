use Rattle.std.proofs.Common.{is_some}
use Rattle.buffer_kit.specs.Virtualising.{net_kinds}
use Rattle.buffer_kit.proofs.VirtFits.{to_moved}
use Rattle.buffer_kit.proofs.VirtTurns.{posted_to}
use Rattle.i2c_virt.proofs.virtualiser.step_to.Goals as goal

pub returns-clause-fits : goal.returns-clause-fits
returns-clause-fits g c = to_moved (g.W.Wires.ends c.args.wires.now) (g.W.Wires.ends c.push_at.new.wires) c.push_at.new.event c.push_at.ensures.moves net_kinds c.args.ends.now c.requires.fits c.push_at.new.outputs c.args.place c.push_at.ensures.queues c.push_at.ensures.role c.push_at.ensures.on c.push_at.ensures.fits

pub returns-clause-posted : goal.returns-clause-posted
returns-clause-posted g c = posted_to c.args.ends.now c.push_at.new.outputs c.args.place (is_some c.args.load.now) c.push_at.new.event c.push_at.ensures.posted

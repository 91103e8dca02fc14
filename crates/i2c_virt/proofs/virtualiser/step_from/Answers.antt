use Rattle.buffer_kit.specs.Virtualising.{net_kinds}
use Rattle.buffer_kit.proofs.VirtFits.{from_moved}
use Rattle.buffer_kit.proofs.VirtTurns.{posted_from}
use Rattle.i2c_virt.proofs.virtualiser.step_from.Goals as goal

pub returns-clause-fits : goal.returns-clause-fits
returns-clause-fits g c = from_moved (g.W.Wires.ends c.args.wires.now) (g.W.Wires.ends c.pull_at.new.wires) c.pull_at.new.event c.pull_at.ensures.moves net_kinds c.args.ends.now c.requires.fits c.pull_at.new.inputs c.args.place c.pull_at.ensures.queues c.pull_at.ensures.role c.pull_at.ensures.on c.pull_at.ensures.fits

pub returns-clause-posted : goal.returns-clause-posted
returns-clause-posted g c = posted_from c.args.ends.now c.pull_at.new.inputs c.args.place c.args.need c.pull_at.new.event c.pull_at.ensures.posted

use Rattle.buffer_kit.specs.Virtualising.{net_kinds}
use Rattle.buffer_kit.proofs.VirtFits.{output_moved}
use Rattle.i2c_virt.proofs.virtualiser.step_output.Goals as goal

pub returns-clause-fits : goal.returns-clause-fits
returns-clause-fits g c = output_moved (g.W.Wires.ends c.args.wires.now) (g.W.Wires.ends c.push.new.wires) c.push.new.event c.push.ensures.moves net_kinds c.args.ends.now c.requires.fits c.push.new.output c.push.ensures.queue c.push.ensures.role c.push.ensures.on c.push.ensures.agrees

use Rattle.buffer_kit.specs.Virtualising.{net_kinds}
use Rattle.buffer_kit.proofs.VirtFits.{input_moved}
use Rattle.i2c_virt.proofs.virtualiser.step_input.Goals as goal

pub returns-clause-fits : goal.returns-clause-fits
returns-clause-fits g c = input_moved (g.W.Wires.ends c.args.wires.now) (g.W.Wires.ends c.pull.new.wires) c.pull.new.event c.pull.ensures.moves net_kinds c.args.ends.now c.requires.fits c.pull.new.input c.pull.ensures.queue c.pull.ensures.role c.pull.ensures.on c.pull.ensures.agrees

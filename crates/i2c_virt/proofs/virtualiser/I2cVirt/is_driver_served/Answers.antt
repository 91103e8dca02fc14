use Rattle.std.proofs.Common.{sym, ap, not, ◌∙◌}
use Rattle.i2c_virt.specs.Works.{is_owing}
use Rattle.i2c_virt.proofs.Settling.{never_settled, ever_settled, settled_by_need}
use Rattle.i2c_virt.proofs.virtualiser.I2cVirt.is_driver_served.Goals as goal

pub returns-then-not-idle : goal.returns-then-not-idle
returns-then-not-idle c = never_settled c.args.self.now.ends.output.state (is_owing c.args.self.now.work) (sym c.settled-idle.ensures ∙ c.if-not-idle.true)

pub returns-then-loaded : goal.returns-then-loaded
returns-then-loaded c = ever_settled c.args.self.now.ends.output.state (is_owing c.args.self.now.work) (sym c.settled-loaded.ensures ∙ c.if-loaded.true)

pub returns : goal.returns
returns c = ap not c.is_owing.ensures ∙ settled_by_need c.args.self.now.ends.output.state (is_owing c.args.self.now.work) (sym c.settled-idle.ensures ∙ c.if-not-idle.false) (sym c.settled-loaded.ensures ∙ c.if-loaded.false)

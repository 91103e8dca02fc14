use Rattle.std.proofs.Common.{ap, ◌∙◌}
use Rattle.i2c_virt.specs.I2cKit.Pages.{head_in}
use Rattle.i2c_virt.proofs.I2cKit.Answering.{answered_by, done_by}
use Rattle.i2c_virt.proofs.i2c_kit.serving.answer_page.Goals as goal

pub returns-clause-page : goal.returns-clause-page
returns-clause-page c = c.serve.ensures.page ∙ answered_by c.args.devices.now c.args.page.now c.in-Some.head (c.in-Some.ensures.head ∙ ap head_in c.bytes.ensures)

pub returns-clause-devices : goal.returns-clause-devices
returns-clause-devices c = c.serve.ensures.devices ∙ done_by c.args.devices.now c.args.page.now c.in-Some.head (c.in-Some.ensures.head ∙ ap head_in c.bytes.ensures)

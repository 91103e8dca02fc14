use Rattle.std.proofs.Common.{refl, ◌∙◌, ap, arith}
use Rattle.i2c_virt.specs.I2cKit.Pages.{with_reply}
use Rattle.i2c_virt.proofs.I2cKit.Spelling.{page_with_reply}
use Rattle.i2c_virt.proofs.i2c_kit.page.write_answer.Goals as goal

pub returns-clause-spelled : goal.returns-clause-spelled
unfolding with_reply
returns-clause-spelled c = λ ask due.
    let spelled = page_with_reply c.args.page.now.bytes c.args.status c.args.bytes.now c.requires.size c.requires.few ask due in
    simp (c.fill-2.ensures, c.fill.ensures, c.status_number.ensures) spelled

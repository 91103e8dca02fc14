use Rattle.std.proofs.Common.{arith, ◌∙◌, sym}
use Rattle.class_expect.proofs.SerialSwitch.Finds.{one_digit_more}
use Rattle.class_expect.proofs.serial_switch.plain.digits_in_front.Goals as goal

pub loop-count-preserved : goal.loop-count-preserved
loop-count-preserved c = (omega arith, omega arith, one_digit_more c.args.input.now c.loop-count.count c.loop-count.invariant.2 c.if-count-input.true (sym c.is_ascii_digit.ensures.value ∙ c.if-is_ascii_digit.true))

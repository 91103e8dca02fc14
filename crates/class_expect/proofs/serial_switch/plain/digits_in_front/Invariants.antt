use Rattle.std.proofs.Common.{◌-◌, ◌≤◌, length, take}
use Rattle.class_expect.specs.SerialSwitch.Switching.{AreDigits}
use Rattle.class_expect.proofs.serial_switch.plain.digits_in_front.Given as goal

abbrev pub invariant-loop-count : goal.invariant-loop-count
invariant-loop-count l = (l.count ≤ 4) × (l.count ≤ length l.input) × AreDigits (take l.count l.input)

abbrev pub decreases-loop-count : goal.decreases-loop-count
decreases-loop-count l = 4 - l.count

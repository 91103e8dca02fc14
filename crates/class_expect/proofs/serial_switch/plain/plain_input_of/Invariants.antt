use Rattle.std.proofs.Common.{◌-◌, length}
use Rattle.class_expect.specs.SerialSwitch.Finding.{IsRead}
use Rattle.class_expect.proofs.serial_switch.plain.plain_input_of.Given as goal

abbrev pub invariant-loop-piece : goal.invariant-loop-piece
invariant-loop-piece l = IsRead l.clients l.client l.input l.at l.selected l.given

abbrev pub decreases-loop-piece : goal.decreases-loop-piece
decreases-loop-piece l = length l.input - l.at

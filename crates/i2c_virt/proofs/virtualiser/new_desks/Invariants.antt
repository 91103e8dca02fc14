use Rattle.std.proofs.Common.{◌≡◌, replicate}
use Rattle.i2c_virt.specs.Desks.{new_desk}
use Rattle.i2c_virt.proofs.virtualiser.new_desks.Given as goal

abbrev pub invariant-loop-number : goal.invariant-loop-number
invariant-loop-number l = l.desks.items ≡ replicate l.number new_desk

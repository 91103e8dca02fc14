use Rattle.std.proofs.Common.{◌-◌}
use Rattle.turn_kit.specs.Lowests.{found}
use Rattle.i2c_virt.specs.Virtualising.{AreLoose, i2c_virt_round}
use Rattle.i2c_virt.proofs.Loosening.{Rest}
use Rattle.i2c_virt.proofs.virtualiser.I2cVirt.find.Given as goal

abbrev pub invariant-loop-place : goal.invariant-loop-place
invariant-loop-place l = AreLoose l.loose (i2c_virt_round l.self) × Rest (i2c_virt_round l.self).posts (i2c_virt_round l.self).needs (found l.lowest) l.place

abbrev pub decreases-loop-place : goal.decreases-loop-place
decreases-loop-place l = l.count - l.place

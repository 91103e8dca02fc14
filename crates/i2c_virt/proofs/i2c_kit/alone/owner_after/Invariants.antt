use Rattle.std.proofs.Common.{◌≡◌, drop}
use Rattle.i2c_virt.specs.I2cKit.Grants.{owner_after}
use Rattle.i2c_virt.proofs.i2c_kit.alone.owner_after.Given as goal

abbrev pub invariant-loop-request : goal.invariant-loop-request
invariant-loop-request l = owner_after (drop l.request-index l.taken) l.address ≡ owner_after l.taken l.address

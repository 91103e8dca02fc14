use Rattle.std.proofs.Common.{◌≡◌, take}
use Rattle.i2c_virt.proofs.I2cKit.Replying.{granted_of}
use Rattle.i2c_virt.proofs.i2c_kit.alone.granted_to.Given as goal

abbrev pub invariant-loop-request : goal.invariant-loop-request
invariant-loop-request l = l.granted ≡ granted_of l.taken l.client (take l.request-index l.taken)

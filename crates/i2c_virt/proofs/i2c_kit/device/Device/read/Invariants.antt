use Rattle.i2c_virt.proofs.I2cKit.Places.{IsReading}
use Rattle.i2c_virt.proofs.i2c_kit.device.Device.read.Given as goal

abbrev pub invariant-loop-place : goal.invariant-loop-place
invariant-loop-place l = IsReading l.fn.self l.self l.into l.place-index

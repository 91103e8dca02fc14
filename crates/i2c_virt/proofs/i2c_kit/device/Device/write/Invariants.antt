use Rattle.std.proofs.Common.{◌≡◌, length, drop}
use Rattle.i2c_virt.specs.I2cKit.Devices.{after_store, after_write}
use Rattle.i2c_virt.proofs.i2c_kit.device.Device.write.Given as goal

abbrev pub invariant-loop-byte : goal.invariant-loop-byte
invariant-loop-byte l = (after_store l.self (drop l.byte-index l.more) ≡ after_write l.fn.self l.bytes) × (length l.self.bytes ≡ 256)

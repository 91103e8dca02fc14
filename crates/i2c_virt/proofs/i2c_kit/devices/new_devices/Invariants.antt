use Rattle.std.proofs.Common.{◌≡◌, map, take}
use Rattle.i2c_virt.specs.I2cKit.Devices.{new_device}
use Rattle.i2c_virt.proofs.i2c_kit.devices.new_devices.Given as goal

abbrev pub invariant-loop-address : goal.invariant-loop-address
invariant-loop-address l = l.devices.items ≡ map new_device (take l.address-index l.addresses)

use Rattle.std.proofs.Common.{sym, subst, arith}
use Rattle.i2c_virt.specs.I2cKit.Devices.{AreWhole}
use Rattle.i2c_virt.proofs.I2cKit.Answering.{new_all, whole_new}
use Rattle.i2c_virt.proofs.i2c_kit.devices.new_devices.Goals as goal

pub returns-clause-devices : goal.returns-clause-devices
returns-clause-devices c = new_all c.args.addresses.now c.loop-address.address-index c.loop-address.devices.items (omega arith) c.loop-address.invariant

pub returns-clause-whole : goal.returns-clause-whole
returns-clause-whole c = subst AreWhole (sym (new_all c.args.addresses.now c.loop-address.address-index c.loop-address.devices.items (omega arith) c.loop-address.invariant)) (whole_new c.args.addresses.now)

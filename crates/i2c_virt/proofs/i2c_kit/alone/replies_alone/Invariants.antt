use Rattle.std.proofs.Common.{◌≡◌, ◌++◌, take, drop}
use Rattle.i2c_virt.specs.I2cKit.Devices.{AreWhole}
use Rattle.i2c_virt.specs.I2cKit.Replies.{alone_from, replies_alone}
use Rattle.i2c_virt.proofs.i2c_kit.alone.replies_alone.Given as goal

abbrev pub invariant-loop-k : goal.invariant-loop-k
invariant-loop-k l = (l.replies ++ alone_from l.granted (take l.k l.asks) l.devices.items (drop l.k l.asks) ≡ replies_alone l.granted l.addresses l.asks) × AreWhole l.devices.items

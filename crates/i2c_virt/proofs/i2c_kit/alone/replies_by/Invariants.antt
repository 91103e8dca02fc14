use Rattle.std.proofs.Common.{◌≡◌, ◌++◌, take, drop}
use Rattle.i2c_virt.specs.I2cKit.Devices.{AreWhole}
use Rattle.i2c_virt.specs.I2cKit.Replies.{replies_from, replies_by}
use Rattle.i2c_virt.proofs.i2c_kit.alone.replies_by.Given as goal

abbrev pub invariant-loop-k : goal.invariant-loop-k
invariant-loop-k l = (l.replies ++ replies_from (take l.k l.taken) l.devices.items (drop l.k l.taken) ≡ replies_by l.addresses l.taken) × AreWhole l.devices.items

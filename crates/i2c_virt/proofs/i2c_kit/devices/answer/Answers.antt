use Rattle.std.proofs.Common.{refl, sym, subst, arith}
use Rattle.i2c_virt.specs.I2cKit.Devices.{AreWhole}
use Rattle.i2c_virt.proofs.I2cKit.Answering.{served, unserved, device_there, whole_set}
use Rattle.i2c_virt.proofs.i2c_kit.devices.answer.Goals as goal

pub returns-in-None-clause-reply : goal.returns-in-None-clause-reply
returns-in-None-clause-reply c = (unserved c.args.devices.now c.args.ask.now c.address_of.result c.new.result c.address_of.ensures c.in-None.ensures c.new.ensures).0

pub returns-in-None-clause-after : goal.returns-in-None-clause-after
returns-in-None-clause-after c = (unserved c.args.devices.now c.args.ask.now c.address_of.result c.new.result c.address_of.ensures c.in-None.ensures c.new.ensures).1

pub answer_at-requires : goal.answer_at-requires
answer_at-requires c = c.requires c.in-Some.place _ (device_there c.args.devices.now c.address_of.result c.in-Some.place c.index-devices-place.result c.in-Some.ensures)

pub returns-in_ok-bytes-in-Some-clause-reply : goal.returns-in_ok-bytes-in-Some-clause-reply
returns-in_ok-bytes-in-Some-clause-reply c = (served c.args.devices.now c.args.ask.now c.address_of.result c.in-Some.place c.index-devices-place.result c.answer_at.new.device c.in_ok-bytes-in-Some.bytes c.address_of.ensures c.in-Some.ensures c.in_ok-bytes-in-Some.ensures.bytes c.in_ok-bytes-in-Some.ensures.after).0

pub returns-in_ok-bytes-in-Some-clause-after : goal.returns-in_ok-bytes-in-Some-clause-after
returns-in_ok-bytes-in-Some-clause-after c = (served c.args.devices.now c.args.ask.now c.address_of.result c.in-Some.place c.index-devices-place.result c.answer_at.new.device c.in_ok-bytes-in-Some.bytes c.address_of.ensures c.in-Some.ensures c.in_ok-bytes-in-Some.ensures.bytes c.in_ok-bytes-in-Some.ensures.after).1

pub returns-in_ok-bytes-in-Some-clause-whole : goal.returns-in_ok-bytes-in-Some-clause-whole
returns-in_ok-bytes-in-Some-clause-whole c = whole_set c.args.devices.now c.in-Some.place c.answer_at.new.device c.requires c.in_ok-bytes-in-Some.ensures.size

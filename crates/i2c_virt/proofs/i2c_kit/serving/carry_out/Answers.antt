use Rattle.std.proofs.Common.{drop, refl, arith}
use Rattle.i2c_virt.specs.I2cKit.Pages.{asked}
use Rattle.i2c_virt.proofs.I2cKit.Answering.{served, unserved, device_there, whole_set, asked_at}
use Rattle.i2c_virt.proofs.i2c_kit.serving.carry_out.Goals as goal

pub returns-in-None-clause-reply : goal.returns-in-None-clause-reply
returns-in-None-clause-reply c =
    let h = c.args.head in
    (unserved c.args.devices.now (asked h.operation h.address h.count (drop 4 c.args.page.now)) h.address _ (asked_at h.operation h.address h.count (drop 4 c.args.page.now)) c.in-None.ensures refl).0

pub returns-in-None-clause-devices : goal.returns-in-None-clause-devices
returns-in-None-clause-devices c =
    let h = c.args.head in
    (unserved c.args.devices.now (asked h.operation h.address h.count (drop 4 c.args.page.now)) h.address _ (asked_at h.operation h.address h.count (drop 4 c.args.page.now)) c.in-None.ensures refl).1

pub transfer-count-requires-clause-whole : goal.transfer-count-requires-clause-whole
transfer-count-requires-clause-whole c = c.requires.whole c.in-Some.place _ (device_there c.args.devices.now c.args.head.address c.in-Some.place c.index-devices-place.result c.in-Some.ensures)

pub returns-in-Some-clause-reply : goal.returns-in-Some-clause-reply
returns-in-Some-clause-reply c =
    let h = c.args.head in
    (served c.args.devices.now (asked h.operation h.address h.count (drop 4 c.args.page.now)) h.address c.in-Some.place c.index-devices-place.result c.transfer-count.new.device _ (asked_at h.operation h.address h.count (drop 4 c.args.page.now)) c.in-Some.ensures c.transfer-count.ensures.bytes c.transfer-count.ensures.after).0

pub returns-in-Some-clause-devices : goal.returns-in-Some-clause-devices
returns-in-Some-clause-devices c =
    let h = c.args.head in
    (served c.args.devices.now (asked h.operation h.address h.count (drop 4 c.args.page.now)) h.address c.in-Some.place c.index-devices-place.result c.transfer-count.new.device _ (asked_at h.operation h.address h.count (drop 4 c.args.page.now)) c.in-Some.ensures c.transfer-count.ensures.bytes c.transfer-count.ensures.after).1

pub returns-in-Some-clause-whole : goal.returns-in-Some-clause-whole
returns-in-Some-clause-whole c = whole_set c.args.devices.now c.in-Some.place c.transfer-count.new.device c.requires.whole c.transfer-count.ensures.size

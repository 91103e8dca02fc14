use Rattle.std.proofs.Common.{refl, arith}
use Rattle.i2c_virt.proofs.I2cKit.Places.{reading_more}
use Rattle.i2c_virt.proofs.i2c_kit.device.Device.read.Goals as goal

pub loop-place-preserved : goal.loop-place-preserved
loop-place-preserved c =
    reading_more c.args.self.now c.loop-place.self c.next.new.self c.loop-place.into _ c.loop-place.place-index c.next.result c.loop-place.invariant (omega arith) c.next.ensures.byte c.next.ensures.after refl

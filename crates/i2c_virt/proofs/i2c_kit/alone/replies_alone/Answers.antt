use Rattle.std.proofs.Common.{[], ◌++◌, ap, ◌∙◌}
use Rattle.i2c_virt.specs.I2cKit.Replies.{alone_from}
use Rattle.i2c_virt.proofs.I2cKit.Replying.{alone_begin}
use Rattle.i2c_virt.proofs.i2c_kit.alone.replies_alone.Goals as goal

pub loop-k-init : goal.loop-k-init
loop-k-init c = (
  ap (λ r. r ++ alone_from c.args.granted.now [] c.in_ok-devices.devices.items c.args.asks.now) c.new-replies.ensures ∙ (ap (λ ds. alone_from c.args.granted.now [] ds c.args.asks.now) c.in_ok-devices.ensures.devices ∙ alone_begin c.args.granted.now c.args.addresses.now c.args.asks.now),
  c.in_ok-devices.ensures.whole,
)

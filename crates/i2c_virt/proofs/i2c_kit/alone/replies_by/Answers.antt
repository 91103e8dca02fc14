use Rattle.std.proofs.Common.{[], ◌++◌, ap, ◌∙◌}
use Rattle.i2c_virt.specs.I2cKit.Replies.{replies_from}
use Rattle.i2c_virt.proofs.I2cKit.Replying.{replies_begin}
use Rattle.i2c_virt.proofs.i2c_kit.alone.replies_by.Goals as goal

pub loop-k-init : goal.loop-k-init
loop-k-init c = (
  ap (λ r. r ++ replies_from [] c.in_ok-devices.devices.items c.args.taken.now) c.new-replies.ensures ∙ (ap (λ ds. replies_from [] ds c.args.taken.now) c.in_ok-devices.ensures.devices ∙ replies_begin c.args.addresses.now c.args.taken.now),
  c.in_ok-devices.ensures.whole,
)

use Rattle.actor_rows.proofs.Fitting.{after_give}
use Rattle.actor_rows.proofs.serial.say.Goals as goal

pub settle-requires : goal.settle-requires
settle-requires c = after_give _ _ c.args.virt.now c.requires c.give-given.ensures

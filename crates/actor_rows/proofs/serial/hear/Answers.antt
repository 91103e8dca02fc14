use Rattle.actor_rows.proofs.Fitting.{after_get}
use Rattle.actor_rows.proofs.serial.hear.Goals as goal

pub settle-requires : goal.settle-requires
settle-requires c = after_get _ _ c.args.virt.now c.args.client c.requires.stands c.get-got.ensures

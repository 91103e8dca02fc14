use Rattle.actor_rows.proofs.Merging.{after_collect}
use Rattle.actor_rows.proofs.serial.collect.Goals as goal

pub settle-requires : goal.settle-requires
settle-requires c = after_collect _ _ c.args.virt.now c.requires c.get-got.ensures

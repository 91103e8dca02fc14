use Rattle.actor_rows.proofs.Merging.{after_offer}
use Rattle.actor_rows.proofs.serial.offer.Goals as goal

pub settle-requires : goal.settle-requires
settle-requires c = after_offer _ _ c.args.virt.now c.args.client c.requires.stands c.give-given.ensures

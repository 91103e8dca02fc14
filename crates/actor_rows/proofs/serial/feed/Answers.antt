use Rattle.actor_rows.proofs.Driving.{after_feed}
use Rattle.actor_rows.proofs.serial.feed.Goals as goal

pub settle-requires : goal.settle-requires
settle-requires c = after_feed _ _ c.args.driver.now c.requires c.give-given.ensures

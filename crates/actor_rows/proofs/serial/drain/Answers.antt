use Rattle.actor_rows.proofs.Driving.{after_drain}
use Rattle.actor_rows.proofs.serial.drain.Goals as goal

pub settle-requires : goal.settle-requires
settle-requires c = after_drain _ _ c.args.driver.now c.requires c.get-got.ensures

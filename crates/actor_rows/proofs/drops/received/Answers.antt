use Rattle.std.proofs.Common.{refl, inl}
use Rattle.actor_rows.proofs.Beside.{device_left}
use Rattle.actor_rows.proofs.drops.received.Goals as goal

pub returns : goal.returns
returns c = device_left _ _ c.args.device.now _ (inl refl) c.requires c.get_entry-got.ensures

use Rattle.actor_rows.proofs.Sizing.{new_device}
use Rattle.actor_rows.proofs.sizes.run_device.Goals as goal

pub settle-requires : goal.settle-requires
settle-requires c = new_device _ c.requires.fed _ _ c.requires.short c.requires.new

pub returns : goal.returns
returns c = c.settle.ensures.long

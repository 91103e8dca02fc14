use Rattle.actor_rows.proofs.Sizing.{new_four}
use Rattle.actor_rows.proofs.sizes.run_driver.Goals as goal

pub settle-requires : goal.settle-requires
settle-requires c = new_four _ c.requires.fed _ c.requires.new

pub returns : goal.returns
returns c = c.settle.ensures.long

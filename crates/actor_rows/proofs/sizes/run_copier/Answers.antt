use Rattle.actor_rows.proofs.Sizing.{new_copier}
use Rattle.actor_rows.proofs.sizes.run_copier.Goals as goal

pub settle-requires : goal.settle-requires
settle-requires c = new_copier _ c.requires.fed _ c.requires.new c.requires.stands

pub returns : goal.returns
returns c = c.settle.ensures.long

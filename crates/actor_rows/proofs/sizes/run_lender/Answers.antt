use Rattle.actor_rows.proofs.Sizing.{new_lender}
use Rattle.actor_rows.proofs.sizes.run_lender.Goals as goal

pub settle-requires : goal.settle-requires
settle-requires c = let n = c.requires.new in new_lender _ c.requires.fed 268435456 n.mac n.pages _ n.new n.stands

pub returns : goal.returns
returns c = c.settle.ensures.long

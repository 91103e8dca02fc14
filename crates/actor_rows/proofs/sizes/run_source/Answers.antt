use Rattle.actor_rows.proofs.Sizing.{new_client}
use Rattle.actor_rows.proofs.sizes.run_source.Goals as goal

pub settle-requires : goal.settle-requires
settle-requires c = let n = c.requires.new in new_client _ c.requires.fed n.program n.mac n.pages n.spare n.script _ n.one n.one_spare n.short n.new

pub returns : goal.returns
returns c = c.settle.ensures.long

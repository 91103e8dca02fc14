use Rattle.wire_core.specs.Picks.{next_seed}
use Rattle.wire_core.proofs.Seeds.{mod_then_add}
use Rattle.wire_core.proofs.picks.next_seed.Goals as goal

pub returns : goal.returns
unfolding next_seed
returns c = mod_then_add _ _ _

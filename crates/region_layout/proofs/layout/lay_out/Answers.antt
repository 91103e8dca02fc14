use Rattle.region_layout.proofs.SmallLemmas.{numbered_clients}
use Rattle.region_layout.proofs.ValidLemmas.{small_numbers, given_apart}
use Rattle.region_layout.proofs.layout.lay_out.Goals as goal

pub laid_out-requires-clause-small : goal.laid_out-requires-clause-small
laid_out-requires-clause-small c = small_numbers c.args.plan.now c.requires

pub laid_out-requires-clause-apart : goal.laid_out-requires-clause-apart
laid_out-requires-clause-apart c = given_apart c.args.plan.now c.requires

pub laid_out-requires-clause-numbered : goal.laid_out-requires-clause-numbered
laid_out-requires-clause-numbered c = numbered_clients c.args.plan.now c.requires

use Rattle.net_law.proofs.OwnersLemmas.Lenders.{lender_keeps}
use Rattle.net_law.proofs.owners.lender_law.Goals as goal

pub returns : goal.returns
returns c = lender_keeps

use Rattle.picture_kit.proofs.QuoteLemmas.{read_back}
use Rattle.picture_kit.proofs.law.quote_law.Goals as goal

pub returns : goal.returns
returns c = read_back

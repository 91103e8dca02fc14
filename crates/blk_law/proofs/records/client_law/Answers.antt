use Rattle.blk_law.proofs.RecordsLemmas.Whole.{records_now}
use Rattle.blk_law.proofs.records.client_law.Goals as goal

pub returns : goal.returns
returns c = λ image entry asks holder has sized. records_now image entry asks holder has sized

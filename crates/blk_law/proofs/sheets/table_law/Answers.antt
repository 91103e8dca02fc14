use Rattle.blk_law.proofs.SheetsLemmas.Following.{blk_own, blk_follows}
use Rattle.blk_law.proofs.sheets.table_law.Goals as goal

pub returns-clause-own : goal.returns-clause-own
returns-clause-own c = blk_own

pub returns-clause-follow : goal.returns-clause-follow
returns-clause-follow c = blk_follows

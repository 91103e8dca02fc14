use Rattle.owner_law.proofs.CountsLemmas.Seats.{all_went, all_came}
use Rattle.owner_law.proofs.CountsLemmas.Wholes.{all_whole, one_place}
use Rattle.owner_law.proofs.CountsLemmas.Tables.{pools_stay, table_past}
use Rattle.owner_law.proofs.counts.count_law.Goals as goal

pub returns-clause-put : goal.returns-clause-put
returns-clause-put c = λ naming rows keepers m f are. all_went naming m f rows keepers are

pub returns-clause-taken : goal.returns-clause-taken
returns-clause-taken c = λ naming rows keepers m f are. all_came naming m f rows keepers are

pub returns-clause-whole : goal.returns-clause-whole
returns-clause-whole c = all_whole

pub returns-clause-one_place : goal.returns-clause-one_place
returns-clause-one_place c = one_place

pub returns-clause-pools : goal.returns-clause-pools
returns-clause-pools c = pools_stay

pub returns-clause-table : goal.returns-clause-table
returns-clause-table c = table_past

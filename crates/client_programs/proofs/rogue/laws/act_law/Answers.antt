use Rattle.client_programs.proofs.RogueLemmas.Following.{from_more, follows_more, next_same, next_none, bounded}
use Rattle.client_programs.proofs.RogueLemmas.Owning.{own_call}
use Rattle.client_programs.proofs.rogue.laws.act_law.Goals as goal

pub returns-clause-more : goal.returns-clause-more
returns-clause-more c = follows_more

pub returns-clause-left : goal.returns-clause-left
returns-clause-left c = from_more

pub returns-clause-one : goal.returns-clause-one
returns-clause-one c = next_same

pub returns-clause-some : goal.returns-clause-some
returns-clause-some c = next_none

pub returns-clause-bounded : goal.returns-clause-bounded
returns-clause-bounded c = bounded

pub returns-clause-own : goal.returns-clause-own
returns-clause-own c = own_call

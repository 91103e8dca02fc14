use Rattle.actor_set.proofs.LawsLemmas.Paces.{start_round}
use Rattle.actor_set.proofs.LawsLemmas.Starts.{new_anew, new_stands, new_whole, new_hand, new_fits}
use Rattle.actor_set.proofs.LawsLemmas.Seating.{apart_ends, kind_is}
use Rattle.actor_set.proofs.laws.start_law.Goals as goal

pub returns-clause-stands : goal.returns-clause-stands
returns-clause-stands c = new_stands

pub returns-clause-whole : goal.returns-clause-whole
returns-clause-whole c = new_whole

pub returns-clause-anew : goal.returns-clause-anew
returns-clause-anew c = new_anew

pub returns-clause-hand : goal.returns-clause-hand
returns-clause-hand c = new_hand

pub returns-clause-fits : goal.returns-clause-fits
returns-clause-fits c = new_fits

pub returns-clause-round : goal.returns-clause-round
returns-clause-round c = start_round

pub returns-clause-apart : goal.returns-clause-apart
returns-clause-apart c = apart_ends

pub returns-clause-kind : goal.returns-clause-kind
returns-clause-kind c = kind_is

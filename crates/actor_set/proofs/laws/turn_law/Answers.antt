use Rattle.actor_set.proofs.LawsLemmas.Paces.{post_end, post_drops, called_end}
use Rattle.actor_set.proofs.LawsLemmas.PartEnds.{end_seat}
use Rattle.actor_set.proofs.LawsLemmas.Dropping.{drop_end}
use Rattle.actor_set.proofs.LawsLemmas.Rounds.{rests_is, turned_is, acted_is, own_is, anew_is, calm_or_rogue}
use Rattle.actor_set.proofs.laws.turn_law.Goals as goal

pub returns-clause-turned : goal.returns-clause-turned
returns-clause-turned c = λ old e new calm turned. turned_is old new e calm turned

pub returns-clause-acted : goal.returns-clause-acted
returns-clause-acted c = acted_is

pub returns-clause-own : goal.returns-clause-own
returns-clause-own c = own_is

pub returns-clause-sorts : goal.returns-clause-sorts
returns-clause-sorts c = calm_or_rogue

pub returns-clause-anew : goal.returns-clause-anew
returns-clause-anew c = anew_is

pub returns-clause-rests : goal.returns-clause-rests
returns-clause-rests c = rests_is

pub returns-clause-ends : goal.returns-clause-ends
returns-clause-ends c = post_end

pub returns-clause-drops : goal.returns-clause-drops
returns-clause-drops c = post_drops

pub returns-clause-drop_ends : goal.returns-clause-drop_ends
returns-clause-drop_ends c = λ p r n h scene. end_seat scene p r n (drop_end p r n h)

pub returns-clause-called : goal.returns-clause-called
returns-clause-called c = called_end

use Rattle.actor_set.proofs.LawsLemmas.ToldRows.{told_rests, told_row}
use Rattle.actor_set.proofs.scenes.told_law.Goals as goal

pub returns-clause-row : goal.returns-clause-row
returns-clause-row c = λ scene wild names a passed m turn stands has. told_row scene wild names passed m has a turn stands

pub returns-clause-rests : goal.returns-clause-rests
returns-clause-rests c = λ scene wild names history journal world a passed calm turn fits stands has bells. told_rests scene wild names passed history journal world bells has a calm turn fits stands

use Rattle.play_core.proofs.Naming.{names_grow, taken_told, told_is}
use Rattle.play_core.proofs.growing.name_law.Goals as goal

pub returns-clause-told : goal.returns-clause-told
returns-clause-told c = told_is

pub returns-clause-taken : goal.returns-clause-taken
returns-clause-taken c = taken_told

pub returns-clause-grows : goal.returns-clause-grows
returns-clause-grows c = names_grow

use Rattle.play_core.proofs.Noting.{notes_few, notes_grow, notes_keep, notes_none, nothing_noted}
use Rattle.play_core.proofs.growing.note_law.Goals as goal

pub returns-clause-starts : goal.returns-clause-starts
returns-clause-starts c = nothing_noted

pub returns-clause-keeps : goal.returns-clause-keeps
returns-clause-keeps c = notes_keep

pub returns-clause-grows : goal.returns-clause-grows
returns-clause-grows c = notes_grow

pub returns-clause-few : goal.returns-clause-few
returns-clause-few c = notes_few

pub returns-clause-none : goal.returns-clause-none
returns-clause-none c = notes_none

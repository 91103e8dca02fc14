use Rattle.play_core.proofs.PicksLemmas.Seeds.{drawn_by, picked_by}
use Rattle.play_core.proofs.picks.pick_law.Goals as goal

pub returns-clause-drawn : goal.returns-clause-drawn
returns-clause-drawn c = drawn_by

pub returns-clause-reached : goal.returns-clause-reached
returns-clause-reached c = picked_by

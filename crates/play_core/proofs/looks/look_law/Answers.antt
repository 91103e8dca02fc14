use Rattle.play_core.proofs.Looking.{drops_within, looks_kept, one_look, track_looks}
use Rattle.play_core.proofs.looks.look_law.Goals as goal

pub returns-clause-tracks : goal.returns-clause-tracks
returns-clause-tracks c = track_looks

pub returns-clause-more : goal.returns-clause-more
returns-clause-more c = one_look

pub returns-clause-keeps : goal.returns-clause-keeps
returns-clause-keeps c = looks_kept

pub returns-clause-drops : goal.returns-clause-drops
returns-clause-drops c = drops_within

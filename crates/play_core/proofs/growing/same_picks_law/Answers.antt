use Rattle.play_core.proofs.Staying.{picked_same}
use Rattle.play_core.proofs.growing.same_picks_law.Goals as goal

pub returns : goal.returns
returns c = picked_same

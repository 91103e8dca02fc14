use Rattle.owner_law.proofs.Replays.{replay_append}
use Rattle.owner_law.proofs.replay_law.Goals as goal

pub returns : goal.returns
returns c = replay_append

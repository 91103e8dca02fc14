use Rattle.play_core.proofs.Merges.{prefix_merge_whole}
use Rattle.play_core.proofs.merge_law.Goals as goal

pub returns : goal.returns
returns c = prefix_merge_whole

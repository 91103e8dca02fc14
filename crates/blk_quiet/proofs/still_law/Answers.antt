use Rattle.blk_quiet.proofs.Answering.{answers_all}
use Rattle.blk_quiet.proofs.still_law.Goals as goal

pub returns : goal.returns
returns c = answers_all

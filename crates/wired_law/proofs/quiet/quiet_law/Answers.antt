use Rattle.wired_law.proofs.QuietLemmas.Quieting.{network_there, recorded_whole, sent_whole}
use Rattle.wired_law.proofs.QuietLemmas.Answering.{block_there, replied_whole}
use Rattle.wired_law.proofs.quiet.quiet_law.Goals as goal

pub returns-clause-there : goal.returns-clause-there
returns-clause-there c = network_there

pub returns-clause-records : goal.returns-clause-records
returns-clause-records c = recorded_whole

pub returns-clause-wire : goal.returns-clause-wire
returns-clause-wire c = sent_whole

pub returns-clause-block : goal.returns-clause-block
returns-clause-block c = block_there

pub returns-clause-replies : goal.returns-clause-replies
returns-clause-replies c = replied_whole

use Rattle.client_programs.proofs.BlkLemmas.Standing.{new_stands}
use Rattle.client_programs.proofs.blk.BlkClient.new.Goals as goal

pub returns-clause-stands : goal.returns-clause-stands
returns-clause-stands c = new_stands c.new.result.queue.0 c.new-2.result.queue.0 c.new-3.result c.args.pages.items c.new-3.ensures.hoard c.new-3.ensures.stands c.new-3.ensures.held

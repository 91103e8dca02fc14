use Rattle.client_programs.proofs.NetLemmas.Standing.{new_holds}
use Rattle.client_programs.proofs.net.NetClient.new.Goals as goal

pub returns-clause-stands : goal.returns-clause-stands
returns-clause-stands c = new_holds _ c.args.rx_pages.items c.new.ensures.pipe.load c.new.ensures.tape c.new-2.ensures.start c.new-2.ensures.list c.new-2.ensures.base (c.new-5.ensures.stands _)

use Rattle.std.proofs.Common.{None, subst}
use Rattle.cargo_core.specs.Ranges.{AreRanges}
use Rattle.net_virt_tx.proofs.Holding.{new_traffic}
use Rattle.net_virt_tx.proofs.traffic.Traffic.new.Goals as goal

pub returns-clause-work : goal.returns-clause-work
returns-clause-work c = new_traffic c.args.most (record { clients = c.in_ok-clients.clients; ranges = c.args.ranges; stray = None }) c.args.clients.now c.requires (subst AreRanges c.ranges-2.view_is c.ranges-2.invariant) c.in_ok-clients.ensures.senders c.in_ok-clients.ensures.fresh

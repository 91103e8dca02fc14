use Rattle.net_law.proofs.WireLemmas.Wires.{wire_good, wire_sends}
use Rattle.net_law.proofs.WireLemmas.Telling.{wire_told}
use Rattle.net_law.proofs.wire.wire_law.Goals as goal

pub returns-clause-good : goal.returns-clause-good
returns-clause-good c = wire_good

pub returns-clause-sends : goal.returns-clause-sends
returns-clause-sends c d p v passed sends h all = wire_sends d p v passed h sends all

pub returns-clause-told : goal.returns-clause-told
returns-clause-told c d p v passed sends h all = wire_told d p v passed h sends all

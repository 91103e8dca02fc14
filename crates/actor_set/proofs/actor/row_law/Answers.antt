use Rattle.actor_set.proofs.Casting.{rows}
use Rattle.actor_set.proofs.actor.row_law.Goals as goal

pub returns : goal.returns
returns c = rows c.row_law.ensures c.row_law-2.ensures c.rx_row_law.ensures c.tx_row_law.ensures c.row_law-3.ensures c.row_law-4.ensures c.row_law-5.ensures c.row_law-6.ensures c.row_law-7.ensures c.row_law-8.ensures c.row_law-9.ensures c.row_law-10.ensures

use Rattle.actor_set.proofs.Casting.{balances}
use Rattle.actor_set.proofs.actor.hand_law.Goals as goal

pub returns : goal.returns
returns c = balances c.hand_law.ensures c.hand_law-2.ensures c.rx_hand_law.ensures c.tx_hand_law.ensures c.hand_law-3.ensures c.hand_law-4.ensures c.hand_law-5.ensures c.hand_law-6.ensures c.hand_law-7.ensures c.hand_law-8.ensures c.hand_law-9.ensures c.hand_law-10.ensures c.hand_law-11.ensures

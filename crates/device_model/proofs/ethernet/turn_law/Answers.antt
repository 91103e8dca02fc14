use Rattle.device_model.proofs.EthernetLemmas.Turns.{drop_turn}
use Rattle.device_model.proofs.ethernet.turn_law.Goals as goal

pub returns : goal.returns
returns c = drop_turn

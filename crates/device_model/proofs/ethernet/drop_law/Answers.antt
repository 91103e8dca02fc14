use Rattle.device_model.proofs.EthernetLemmas.Dropping.{stands_held, held_stands, holds, held, round_held, few_dropped_frames}
use Rattle.device_model.proofs.EthernetLemmas.Holding.{held_row, held_balance}
use Rattle.device_model.proofs.ethernet.drop_law.Goals as goal

pub returns-clause-stands : goal.returns-clause-stands
returns-clause-stands c = stands_held

pub returns-clause-stood : goal.returns-clause-stood
returns-clause-stood c = held_stands

pub returns-clause-holds : goal.returns-clause-holds
returns-clause-holds c = holds

pub returns-clause-held : goal.returns-clause-held
returns-clause-held c = held

pub returns-clause-round : goal.returns-clause-round
returns-clause-round c = round_held

pub returns-clause-few : goal.returns-clause-few
returns-clause-few c = few_dropped_frames

pub returns-clause-row : goal.returns-clause-row
returns-clause-row c = held_row

pub returns-clause-balance : goal.returns-clause-balance
returns-clause-balance c = held_balance

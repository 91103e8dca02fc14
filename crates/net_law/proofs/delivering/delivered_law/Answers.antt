use Rattle.net_law.proofs.DeliveringLemmas.Reaching.{record_delivered, sends_delivered}
use Rattle.net_law.proofs.delivering.delivered_law.Goals as goal

pub returns-clause-records : goal.returns-clause-records
returns-clause-records c = record_delivered

pub returns-clause-sends : goal.returns-clause-sends
returns-clause-sends c = sends_delivered

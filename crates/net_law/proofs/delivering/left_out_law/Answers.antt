use Rattle.net_law.proofs.DeliveringLemmas.Reaching.{accepted_part, due_part, record_part, sends_some}
use Rattle.net_law.proofs.delivering.left_out_law.Goals as goal

pub returns-clause-accepted : goal.returns-clause-accepted
returns-clause-accepted c = accepted_part

pub returns-clause-due : goal.returns-clause-due
returns-clause-due c = due_part

pub returns-clause-recorded : goal.returns-clause-recorded
returns-clause-recorded c = record_part

pub returns-clause-sends : goal.returns-clause-sends
returns-clause-sends c = sends_some

use Rattle.net_law.proofs.DeliveringLemmas.Waiting.{waits_accepted, waits_due, waits_sends, waits_all, waits_rows, waits_back}
use Rattle.net_law.proofs.delivering.waiting_law.Goals as goal

pub returns-clause-accepted : goal.returns-clause-accepted
returns-clause-accepted c = waits_accepted

pub returns-clause-due : goal.returns-clause-due
returns-clause-due c = waits_due

pub returns-clause-sends : goal.returns-clause-sends
returns-clause-sends c = waits_sends

pub returns-clause-all : goal.returns-clause-all
returns-clause-all c = waits_all

pub returns-clause-rows : goal.returns-clause-rows
returns-clause-rows c = waits_rows

pub returns-clause-back : goal.returns-clause-back
returns-clause-back c = waits_back

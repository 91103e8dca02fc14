use Rattle.net_quiet.proofs.Waiting.{kept_all, left_all, sends_all_hold, arrives_hold, sends_hold}
use Rattle.net_quiet.proofs.drops.waits_law.Goals as goal

pub returns-clause-kept : goal.returns-clause-kept
returns-clause-kept c = kept_all

pub returns-clause-left : goal.returns-clause-left
returns-clause-left c = left_all

pub returns-clause-sends : goal.returns-clause-sends
returns-clause-sends c = sends_all_hold

pub returns-clause-arrives : goal.returns-clause-arrives
returns-clause-arrives c = arrives_hold

pub returns-clause-all : goal.returns-clause-all
returns-clause-all c = sends_hold

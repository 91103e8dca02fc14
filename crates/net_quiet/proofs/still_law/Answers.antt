use Rattle.net_quiet.proofs.Receiving.{arrives_all, sends_all}
use Rattle.net_quiet.proofs.still_law.Goals as goal

pub returns-clause-arrives : goal.returns-clause-arrives
returns-clause-arrives c = arrives_all

pub returns-clause-sends : goal.returns-clause-sends
returns-clause-sends c = sends_all

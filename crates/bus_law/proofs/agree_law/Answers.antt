use Rattle.bus_law.proofs.Agreeing.{agreed}
use Rattle.bus_law.proofs.agree_law.Goals as goal

pub returns : goal.returns
returns c = agreed

use Rattle.net_law.proofs.PartsLemmas.Owning.{net_puts}
use Rattle.net_law.proofs.parts.own_law.Goals as goal

pub returns : goal.returns
returns c = net_puts

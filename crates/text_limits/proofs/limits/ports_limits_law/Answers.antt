use Rattle.text_limits.proofs.PortLimits.{ports_kept}
use Rattle.text_limits.proofs.limits.ports_limits_law.Goals as goal

pub returns : goal.returns
returns c ports read = ports_kept ports read

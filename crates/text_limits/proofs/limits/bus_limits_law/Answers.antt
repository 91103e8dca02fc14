use Rattle.text_limits.proofs.BusLimits.{bus_kept}
use Rattle.text_limits.proofs.limits.bus_limits_law.Goals as goal

pub returns : goal.returns
returns c bus read = bus_kept bus read

use Rattle.trace_text.proofs.Limits.{limits_kept}
use Rattle.trace_text.proofs.laws.limits_law.Goals as goal

pub returns : goal.returns
returns c plan trace read = limits_kept plan trace read

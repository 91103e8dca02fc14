use Rattle.wire_core.proofs.BellTheorem.{event_holds}
use Rattle.wire_core.proofs.laws.bell_law.Goals as goal

pub returns-clause-kept : goal.returns-clause-kept
returns-clause-kept c = event_holds

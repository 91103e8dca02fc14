use Rattle.wire_core.proofs.BellTheorem.{bells_hold, queues_flow, starts_hold, starts_flow}
use Rattle.wire_core.proofs.laws.journal_law.Goals as goal

pub returns-clause-bells : goal.returns-clause-bells
returns-clause-bells c = bells_hold

pub returns-clause-flows : goal.returns-clause-flows
returns-clause-flows c = queues_flow

pub returns-clause-start_bells : goal.returns-clause-start_bells
returns-clause-start_bells c = starts_hold

pub returns-clause-start_flows : goal.returns-clause-start_flows
returns-clause-start_flows c = starts_flow

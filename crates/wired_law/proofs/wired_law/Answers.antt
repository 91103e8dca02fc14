use Rattle.wired_law.proofs.Wiring.{in_turn, turns_beside, recorded, sent_beside, told_beside, sent_on, sent_told, nothing_sent, sends_in}
use Rattle.wired_law.proofs.wired_law.Goals as goal

pub returns-clause-turns : goal.returns-clause-turns
returns-clause-turns c scene = in_turn

pub returns-clause-starts : goal.returns-clause-starts
returns-clause-starts c scene = nothing_sent

pub returns-clause-goes_on : goal.returns-clause-goes_on
returns-clause-goes_on c scene = sends_in

pub returns-clause-records : goal.returns-clause-records
returns-clause-records c scene = recorded

pub returns-clause-wire : goal.returns-clause-wire
returns-clause-wire c scene = sent_on

pub returns-clause-told : goal.returns-clause-told
returns-clause-told c scene = sent_told

pub returns-clause-turns_beside : goal.returns-clause-turns_beside
returns-clause-turns_beside c = turns_beside

pub returns-clause-wire_beside : goal.returns-clause-wire_beside
returns-clause-wire_beside c scene = sent_beside

pub returns-clause-told_beside : goal.returns-clause-told_beside
returns-clause-told_beside c scene = told_beside

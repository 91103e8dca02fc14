use Rattle.seat_wires.proofs.Listing.{taken_grow, sent_grow}
use Rattle.seat_wires.proofs.Timing.{times_go}
use Rattle.seat_wires.proofs.Going.{went_one, went_none, went_then}
use Rattle.seat_wires.proofs.laws.seats_law.Goals as goal

pub returns-clause-taken : goal.returns-clause-taken
returns-clause-taken c = λ s t d h. taken_grow s d t h

pub returns-clause-sent : goal.returns-clause-sent
returns-clause-sent c = λ s t d h. sent_grow s d t h

pub returns-clause-one : goal.returns-clause-one
returns-clause-one c = λ s t d h. went_one s d t h

pub returns-clause-none : goal.returns-clause-none
returns-clause-none c = went_none

pub returns-clause-then : goal.returns-clause-then
returns-clause-then c = went_then

pub returns-clause-times : goal.returns-clause-times
returns-clause-times c = λ s t d h. times_go s d t h

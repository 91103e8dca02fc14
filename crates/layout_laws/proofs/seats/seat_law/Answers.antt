use Rattle.layout_laws.proofs.SeatsLemmas.Having.{job_is_of}
use Rattle.layout_laws.proofs.SeatsLemmas.Counts.{queues_before, few_queues, few_numbers}
use Rattle.layout_laws.proofs.SeatsLemmas.Seats.{has_seat, has_end, known_by, not_both}
use Rattle.layout_laws.proofs.SeatsLemmas.Carrying.{net_kinds}
use Rattle.layout_laws.proofs.SeatsLemmas.Naming.{net_named, serial_named, blk_named}
use Rattle.layout_laws.proofs.seats.seat_law.Goals as goal

pub returns-clause-of : goal.returns-clause-of
returns-clause-of c = job_is_of

pub returns-clause-seats : goal.returns-clause-seats
returns-clause-seats c = has_seat

pub returns-clause-ends : goal.returns-clause-ends
returns-clause-ends c = has_end

pub returns-clause-known : goal.returns-clause-known
returns-clause-known c = known_by

pub returns-clause-split : goal.returns-clause-split
returns-clause-split c = not_both

pub returns-clause-first : goal.returns-clause-first
returns-clause-first c = queues_before

pub returns-clause-net : goal.returns-clause-net
returns-clause-net c = net_kinds

pub returns-clause-net_named : goal.returns-clause-net_named
returns-clause-net_named c = net_named

pub returns-clause-serial_named : goal.returns-clause-serial_named
returns-clause-serial_named c = serial_named

pub returns-clause-numbered : goal.returns-clause-numbered
returns-clause-numbered c = few_queues

pub returns-clause-few : goal.returns-clause-few
returns-clause-few c = few_numbers

pub returns-clause-blk_named : goal.returns-clause-blk_named
returns-clause-blk_named c = blk_named

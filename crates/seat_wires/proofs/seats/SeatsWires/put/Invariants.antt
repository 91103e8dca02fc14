use Rattle.seat_wires.specs.Times.{next_time}
use Rattle.seat_wires.proofs.seats.SeatsWires.put.Given as goal

abbrev pub ghosts-put_at : goal.ghosts-put_at
ghosts-put_at a = record { time = next_time a.known.value }

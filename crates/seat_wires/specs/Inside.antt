-- How the ends of one actor lie in the fields of `Seats`.
use Rattle.std.specs.Prelude.{◌≤◌, length}
use Rattle.seat_wires.specs.Places.Are.{SeatsAre}
use Rattle.seat_wires.specs.Places.{EndsOn}
use Rattle.seat_wires.specs.declared.seats.Seats.TheInside.{Inside}

-- what contracts see of the ends of one actor
abbrev pub seats_are : Inside → SeatsAre
seats_are s = record {
  rings = s.rings.now;
  producers = s.producers.items;
  consumers = s.consumers.items;
}

-- each end belongs to the ring at its place, and the places are numbers of queues
pub record FitSeats (s : Inside) : Type 0 where
  pub producers : EndsOn s.rings.now s.producers.items
  pub consumers : EndsOn s.rings.now s.consumers.items
  pub few_producers : length s.producers.items ≤ 65536
  pub few_consumers : length s.consumers.items ≤ 65536

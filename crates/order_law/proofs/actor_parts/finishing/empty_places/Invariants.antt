use Rattle.std.proofs.Common.{◌≡◌, ℕ, None, length}
use Rattle.seat_wires.specs.Places.{stands_at}
use Rattle.order_law.proofs.actor_parts.finishing.empty_places.Given as goal

abbrev pub invariant-loop : goal.invariant-loop
invariant-loop g l = record {
  many : length l.places.items ≡ l.counter;
  none : (n : ℕ) → stands_at l.places.items n ≡ None;
}

use Rattle.std.proofs.Common.{◌≡◌, ℕ, ◌+◌, ◌-◌, ◌<◌, ◌≤◌, length}
use Rattle.seat_wires.specs.Places.{stands_at}
use Rattle.seat_wires.proofs.places.reach.Given as goal

abbrev pub invariant-loop-ends : goal.invariant-loop-ends
invariant-loop-ends g l = ((n : ℕ) → stands_at l.ends.items n ≡ stands_at l.initial.ends.items n) × ((n : ℕ) → l.place < n → length l.initial.ends.items ≤ n → length l.ends.items ≤ n)

abbrev pub decreases-loop-ends : goal.decreases-loop-ends
decreases-loop-ends g l = l.place + 1 - length l.ends.items

use Rattle.std.proofs.Common.{◌≡◌, ℕ, ◌≤◌, length}
use Rattle.seat_wires.specs.Places.{stands_at}
use Rattle.seat_wires.proofs.places.last_end.Given as goal

-- the ends as they were, but for places at which nothing stood
abbrev pub invariant-loop-last : goal.invariant-loop-last
invariant-loop-last g l = ((n : ℕ) → stands_at l.ends.items n ≡ stands_at l.initial.ends.items n) × (length l.ends.items ≤ length l.initial.ends.items)

abbrev pub decreases-loop-last : goal.decreases-loop-last
decreases-loop-last g l = length l.ends.items

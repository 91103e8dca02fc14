use Rattle.std.proofs.Common.{◌≡◌, length, All}
use Rattle.cargo_core.specs.Capacities.{IsCapacity}
use Rattle.base_rows.proofs.rows.queues_of.Given as goal

abbrev pub invariant-loop-place : goal.invariant-loop-place
invariant-loop-place l = (length l.rows.items ≡ l._place) × All (λ r. r.kind ≡ l.kind) l.rows.items × All (λ r. IsCapacity r.capacity) l.rows.items

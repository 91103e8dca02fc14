use Rattle.std.proofs.Common.{◌+◌, ◌*◌, ◌<◌, ℕ}
use Rattle.wire_core.specs.Ends.{Producer}
use Rattle.cast_core.specs.Known.{IsOwner}
use Rattle.cast_core.proofs.jobs.blk_client_of.Given as goal

abbrev pub invariant-loop-c : goal.invariant-loop-c
invariant-loop-c l = (j : ℕ) → j < l.c → IsOwner l.rows (l.first + 4 + 2 * j) Producer l.actor → ⊥

use Rattle.std.proofs.Common.{◌≡◌}
use Rattle.trace_text.specs.Traces.{per_client}
use Rattle.cast_core.specs.Making.{lease_ends}
use Rattle.cast_core.proofs.network.lease_ends.Given as goal

abbrev pub invariant-loop-c : goal.invariant-loop-c
invariant-loop-c l = l.ends.items ≡ per_client l.c (lease_ends l.plan)

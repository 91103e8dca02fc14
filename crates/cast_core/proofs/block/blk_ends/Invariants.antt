use Rattle.std.proofs.Common.{◌≡◌}
use Rattle.trace_text.specs.Traces.{per_client}
use Rattle.cast_core.specs.Making.{blk_ends}
use Rattle.cast_core.proofs.block.blk_ends.Given as goal

abbrev pub invariant-loop-c : goal.invariant-loop-c
invariant-loop-c l = l.ends.items ≡ per_client l.c (blk_ends l.plan l.rows)

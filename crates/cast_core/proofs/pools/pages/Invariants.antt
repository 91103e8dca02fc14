use Rattle.std.proofs.Common.{◌≡◌}
use Rattle.trace_text.specs.Traces.{per_client}
use Rattle.cast_core.specs.Making.{new_page}
use Rattle.cast_core.proofs.pools.pages.Given as goal

abbrev pub invariant-loop-no : goal.invariant-loop-no
invariant-loop-no l = l.pages.items ≡ per_client l.no (new_page l.size l.pool)

use Rattle.std.proofs.Common.{◌≡◌, []}
use Rattle.line_text.specs.Lists.{per_client}
use Rattle.line_text.proofs.lists.no_bytes.Given as goal

abbrev pub invariant-loop-client : goal.invariant-loop-client
invariant-loop-client l = l.lists ≡ per_client l._client (λ _. [])

use Rattle.std.proofs.Common.{◌≡◌, drop}
use Rattle.std.specs.List.{find}
use Rattle.line_text.specs.Texts.{same_text}
use Rattle.trace_text.proofs.clients.runs.Given as goal

abbrev pub invariant-loop-domain : goal.invariant-loop-domain
invariant-loop-domain l = find (λ d. same_text d.name l.name) (drop l.domain-index l.domains) ≡ find (λ d. same_text d.name l.name) l.domains

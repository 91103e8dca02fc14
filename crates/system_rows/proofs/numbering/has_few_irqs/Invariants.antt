use Rattle.std.proofs.Common.{◌<◌, ◌^◌, length, take, All}
use Rattle.system_rows.proofs.numbering.has_few_irqs.Given as goal

abbrev pub invariant-loop-domain : goal.invariant-loop-domain
invariant-loop-domain l = All (λ x. length x.irq < 2 ^ 32) (take l.domain-index l.domains)

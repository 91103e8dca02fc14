use Rattle.std.proofs.Common.{◌≡◌, ◌++◌, take, map}
use Rattle.export_text.specs.System.{irq_tag}
use Rattle.export_text.proofs.domain.push_irqs.Given as goal

abbrev pub invariant-loop-irq : goal.invariant-loop-irq
invariant-loop-irq l = l.tags ≡ l.fn.tags ++ map irq_tag (take l.irq-index l.irqs)

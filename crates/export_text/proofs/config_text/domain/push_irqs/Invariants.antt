use Rattle.std.proofs.Common.{◌≡◌, ◌++◌, drop}
use Rattle.export_text.specs.ConfigText.Lines.{each_numbered}
use Rattle.export_text.specs.ConfigText.Config.{irq_text}
use Rattle.export_text.proofs.config_text.domain.push_irqs.Given as goal

-- what was written and what is left is the whole
abbrev pub invariant-loop-at : goal.invariant-loop-at
invariant-loop-at l = l.to ++ each_numbered (irq_text l.domain) l.at (drop l.at l.irqs) ≡ l.fn.to ++ each_numbered (irq_text l.domain) 0 l.irqs

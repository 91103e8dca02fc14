use Rattle.std.proofs.Common.{◌≡◌, ◌++◌, drop}
use Rattle.export_text.specs.ConfigText.Lines.{each_numbered}
use Rattle.export_text.specs.ConfigText.Config.{queue_text}
use Rattle.export_text.proofs.config_text.row.push_queues.Given as goal

-- what was written and what is left is the whole
abbrev pub invariant-loop-at : goal.invariant-loop-at
invariant-loop-at l = l.to ++ each_numbered queue_text l.at (drop l.at l.queues) ≡ l.fn.to ++ each_numbered queue_text 0 l.queues

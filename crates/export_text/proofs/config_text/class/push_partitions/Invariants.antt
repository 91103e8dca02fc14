use Rattle.std.proofs.Common.{◌≡◌, ◌++◌, drop}
use Rattle.export_text.specs.ConfigText.Lines.{each_numbered}
use Rattle.export_text.specs.ConfigText.Config.{blk_client_text}
use Rattle.export_text.proofs.config_text.class.push_partitions.Given as goal

-- what was written and what is left is the whole
abbrev pub invariant-loop-at : goal.invariant-loop-at
invariant-loop-at l = l.to ++ each_numbered blk_client_text l.at (drop l.at l.clients) ≡ l.fn.to ++ each_numbered blk_client_text 0 l.clients

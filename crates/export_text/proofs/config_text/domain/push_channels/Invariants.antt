use Rattle.std.proofs.Common.{◌≡◌, ◌++◌, drop}
use Rattle.export_text.specs.ConfigText.Lines.{each_numbered}
use Rattle.export_text.specs.ConfigText.Config.{channel_text}
use Rattle.export_text.proofs.config_text.domain.push_channels.Given as goal

-- what was written and what is left is the whole
abbrev pub invariant-loop-at : goal.invariant-loop-at
invariant-loop-at l = l.to ++ each_numbered channel_text l.at (drop l.at l.channels) ≡ l.fn.to ++ each_numbered channel_text 0 l.channels

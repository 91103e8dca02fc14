use Rattle.std.proofs.Common.{◌≡◌, ◌++◌, take}
use Rattle.std.specs.List.{flat_map}
use Rattle.export_text.specs.System.{channel_tags}
use Rattle.export_text.proofs.system.push_channels.Given as goal

abbrev pub invariant-loop-channel : goal.invariant-loop-channel
invariant-loop-channel l = l.tags ≡ l.fn.tags ++ flat_map channel_tags (take l.channel-index l.channels)

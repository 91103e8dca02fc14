use Rattle.std.proofs.Common.{◌<◌, ◌^◌, length, take, All}
use Rattle.system_rows.proofs.numbering.has_few_ends.Given as goal

abbrev pub invariant-loop-channel : goal.invariant-loop-channel
invariant-loop-channel l = All (λ x. length x.end < 2 ^ 32) (take l.channel-index l.channels)

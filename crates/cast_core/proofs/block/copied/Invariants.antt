use Rattle.std.proofs.Common.{◌≡◌, take}
use Rattle.cast_core.proofs.block.copied.Given as goal

abbrev pub invariant-loop-ask : goal.invariant-loop-ask
invariant-loop-ask l = l.copy.items ≡ take l.ask-index l.asks

use Rattle.std.proofs.Common.{◌≡◌, take}
use Rattle.bus_law.proofs.i2c_actors.cast.copy_asks.Given as goal

abbrev pub invariant-loop-ask : goal.invariant-loop-ask
invariant-loop-ask l = l.copies.items ≡ take l.ask-index l.asks

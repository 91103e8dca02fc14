use Rattle.std.proofs.Common.{◌≡◌, ◌++◌, map, take, drop}
use Rattle.buffer_kit.specs.Virtualising.{outlet_forgotten}
use Rattle.buffer_kit.proofs.virt_ends.forget_outputs.Given as goal

abbrev pub invariant-loop-k : goal.invariant-loop-k
invariant-loop-k l = l.outputs.ends.items ≡ map outlet_forgotten (take l.k l.initial.outputs.ends.items) ++ drop l.k l.initial.outputs.ends.items

use Rattle.std.proofs.Common.{◌≡◌, ◌++◌, map, take, drop}
use Rattle.buffer_kit.specs.Virtualising.{intake_forgotten}
use Rattle.buffer_kit.proofs.virt_ends.forget_inputs.Given as goal

abbrev pub invariant-loop-k : goal.invariant-loop-k
invariant-loop-k l = l.inputs.ends.items ≡ map intake_forgotten (take l.k l.initial.inputs.ends.items) ++ drop l.k l.initial.inputs.ends.items

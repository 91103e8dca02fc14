use Rattle.std.proofs.Common.{◌≡◌, ◌-◌, ◌++◌}
use Rattle.workload.specs.Draws.{moved, drawn}
use Rattle.workload.specs.Lines.{letters}
use Rattle.workload.proofs.streams.add_letters.Given as goal

-- what was pushed and what is left is the whole, and so are the draws
abbrev pub invariant-loop-at : goal.invariant-loop-at
invariant-loop-at l =
    (l.to ++ letters (drawn l.draws.x (l.many - l._at)) ≡ l.initial.to ++ letters (drawn l.initial.draws.x l.many))
    × (moved l.draws.x (l.many - l._at) ≡ moved l.initial.draws.x l.many)

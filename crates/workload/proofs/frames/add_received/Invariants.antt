use Rattle.std.proofs.Common.{◌≡◌, ◌-◌, ◌++◌, string_bytes}
use Rattle.workload.specs.Draws.{moved, drawn}
use Rattle.workload.specs.Lines.{rx_line}
use Rattle.workload.specs.Generated.{numbered}
use Rattle.workload.proofs.frames.add_received.Given as goal

-- what was written and what is left is the whole, and so are the draws
abbrev pub invariant-loop-i : goal.invariant-loop-i
invariant-loop-i l =
    (string_bytes l.to ++ numbered rx_line l.i (drawn l.draws.x (256 - l.i)) ≡ string_bytes l.initial.to ++ numbered rx_line 0 (drawn l.initial.draws.x 256))
    × (moved l.draws.x (256 - l.i) ≡ moved l.initial.draws.x 256)

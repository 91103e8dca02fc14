use Rattle.std.proofs.Common.{◌≡◌, ◌-◌, ◌++◌, string_bytes}
use Rattle.workload.specs.Draws.{drawn}
use Rattle.workload.specs.Lines.{blk_lines}
use Rattle.workload.specs.Generated.{numbered}
use Rattle.workload.proofs.requests.add_asked.Given as goal

-- what was written and what is left is the whole
abbrev pub invariant-loop-i : goal.invariant-loop-i
invariant-loop-i l =
    string_bytes l.to ++ numbered blk_lines l.i (drawn l.draws.x (32 - l.i)) ≡ string_bytes l.initial.to ++ numbered blk_lines 0 (drawn l.initial.draws.x 32)

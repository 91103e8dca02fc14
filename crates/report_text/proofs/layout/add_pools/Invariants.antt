use Rattle.std.proofs.Common.{◌≡◌, ◌++◌, map, drop, string_bytes}
use Rattle.report_text.specs.Lines.{text_of}
use Rattle.report_text.specs.Layouts.{layout_pool_line}
use Rattle.report_text.proofs.layout.add_pools.Given as goal

-- what was written and what is left is the whole
abbrev pub invariant-loop-k : goal.invariant-loop-k
invariant-loop-k l =
    string_bytes l.to ++ text_of (map (layout_pool_line l.regions) (drop l.k l.pools)) ≡ string_bytes l.initial.to ++ text_of (map (layout_pool_line l.regions) l.pools)

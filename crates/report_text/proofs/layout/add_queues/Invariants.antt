use Rattle.std.proofs.Common.{◌≡◌, [], ◌∷◌, ◌++◌, drop, string_bytes}
use Rattle.report_text.specs.Lines.{text_of}
use Rattle.report_text.specs.Reports.{each_numbered}
use Rattle.report_text.specs.Layouts.{queue_line}
use Rattle.report_text.proofs.layout.add_queues.Given as goal

-- what was written and what is left is the whole
abbrev pub invariant-loop-k : goal.invariant-loop-k
invariant-loop-k l =
    string_bytes l.to ++ text_of (each_numbered (λ n queue. queue_line l.regions l.actors n queue ∷ []) l.k (drop l.k l.queues))
    ≡ string_bytes l.initial.to ++ text_of (each_numbered (λ n queue. queue_line l.regions l.actors n queue ∷ []) 0 l.queues)

-- The answers of one line, word by word.
use Rattle.std.specs.Prelude.{ℕ, List, [], ◌∷◌, ◌++◌, length, codes}
use Rattle.std.specs.Fmt.{decimal}
use Rattle.sdf_plan.specs.declared.place.Refusal.{Refusal}
use Rattle.sdf_plan.specs.declared.plan.Plan.{Plan}
use Rattle.region_layout.specs.Rows.{queues_of}
use Rattle.report_text.specs.Lines.{text_of}
use Rattle.report_text.specs.Places.{place_text}

-- for words that are no command: the place of the first bad one
abbrev pub usage_text : ℕ → List ℕ
usage_text k = text_of ((codes "usage: word " ++ decimal k) ∷ [])

-- for a description that is accepted: how many domains, regions, channels and queues it has
abbrev pub accepted_text : Plan → List ℕ
accepted_text plan =
    text_of ((codes "accepted domains " ++ (decimal (length plan.protection_domain)
    ++ (codes " regions " ++ (decimal (length plan.memory_region)
    ++ (codes " channels " ++ (decimal (length plan.channel)
    ++ (codes " queues " ++ decimal (length (queues_of plan))))))))) ∷ [])

-- for a description that is refused: the rule that it breaks, or 0, and the place
abbrev pub refused_text : Refusal → List ℕ
refused_text refusal =
    text_of ((codes "refused " ++ (decimal refusal.rule
    ++ (codes " " ++ place_text refusal.place))) ∷ [])

-- for a trace that is refused: its first bad line
abbrev pub bad_trace_text : ℕ → List ℕ
bad_trace_text line = text_of ((codes "bad trace line " ++ decimal line) ∷ [])

-- for a description or a trace that is too long
abbrev pub long_text : List ℕ
long_text = text_of (codes "too long" ∷ [])

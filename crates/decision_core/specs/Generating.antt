-- What `gen` asks for.
use Rattle.std.specs.Prelude.{◌≡◌}
use Rattle.sdf_plan.specs.declared.plan.Plan.{Plan}
use Rattle.trace_text.specs.declared.trace.Trace.{Trace}
use Rattle.decision_core.specs.declared.showing.Showing.TheVariants as Show
use Rattle.decision_core.specs.Decisions.{Decision, Play}

-- a trace is played on a plan with seed 0, and the summary is shown
abbrev pub IsSummary : Decision → Type 0
IsSummary decision = (plan : Plan) × (trace : Trace) × (decision ≡ Play plan trace Show.Summary)

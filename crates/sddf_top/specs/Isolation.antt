-- An answer that shows a system of a plan and a trace.
use Rattle.std.specs.Prelude.{◌≡◌, ℕ, Option, List}
use Rattle.sdf_plan.specs.declared.plan.Plan.{Plan}
use Rattle.trace_text.specs.declared.trace.Trace.{Trace}
use Rattle.system_core.specs.declared.system.System.{System}
use Rattle.decision_core.specs.declared.showing.Showing.{Showing}
use Rattle.decision_core.specs.declared.status.Status.{Status}
use Rattle.decision_core.specs.Decisions.{Decision, Play, Run}
use Rattle.sddf_top.specs.declared.played.Played.{Played}
use Rattle.sddf_top.specs.declared.played.Played.TheVariants as Was
use Rattle.sddf_top.specs.Answers.{Comes}

-- what is decided is that a trace is played or run on a plan
pub data IsOn (plan : Plan) (trace : Trace) : Decision → Type 0 where
  played_on : (showing : Showing) → IsOn plan trace (Play plan trace showing)
  run_on : (steps : Option ℕ) → IsOn plan trace (Run plan trace steps)

-- an answer by such a decision, with the system that it shows
pub record AnswersOn (plan : Plan) (trace : Trace) (system : System) : Type 0 where
  pub decision : Decision
  pub is_on : IsOn plan trace decision
  pub status : Status
  pub text : List ℕ
  pub played : Played
  pub comes : Comes decision status text played
  pub played_is : played ≡ Was.Classes system

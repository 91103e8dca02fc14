-- An answer on a plan and a trace shows a system of them.
use Rattle.std.proofs.Common.{◌≡◌, ℕ, Option, List, sym, ◌∙◌, subst}
use Rattle.sdf_plan.specs.declared.plan.Plan.{Plan}
use Rattle.trace_text.specs.declared.trace.Trace.{Trace}
use Rattle.system_core.specs.declared.system.System.{System}
use Rattle.system_core.specs.PlanPlays.{IsSystemOf}
use Rattle.decision_core.specs.declared.status.Status.{Status}
use Rattle.decision_core.specs.Decisions.{Decision}
use Rattle.sddf_top.specs.declared.played.Played.{Played}
use Rattle.sddf_top.specs.declared.played.Played.TheVariants as Was
use Rattle.sddf_top.specs.Answers.{Comes}
use Rattle.sddf_top.specs.Isolation.{IsOn, played_on, run_on, AnswersOn}

same-system : (s t : System) → Was.Classes s ≡ Was.Classes t → s ≡ t
same-system s t h = cc

came : (plan : Plan) (trace : Trace) (d : Decision) (status : Status) (text : List ℕ) (played : Played) (s : System) → IsOn plan trace d → Comes d status text played → played ≡ Was.Classes s → IsSystemOf plan trace s
came plan trace _ status text played s (played_on showing) c is =
    subst (λ (x : System). IsSystemOf plan trace x) (same-system c.system s (sym c.played_is ∙ is)) c.plays.played.system
came plan trace _ status text played s (run_on steps) c is =
    subst (λ (x : System). IsSystemOf plan trace x) (same-system c.system s (sym c.played_is ∙ is)) c.ran.played.system

pub system-of : (plan : Plan) (trace : Trace) (s : System) → AnswersOn plan trace s → IsSystemOf plan trace s
system-of plan trace s a = came plan trace a.decision a.status a.text a.played s a.is_on a.comes a.played_is

use Rattle.std.proofs.Common.{◌≤◌, List, ℕ, Err, length, ap, sym, subst}
use Rattle.sdf_plan.specs.declared.plan.Plan.{Plan}
use Rattle.sdf_plan.specs.Elements.{IsNumbered}
use Rattle.sdf_model.specs.Counts.{text_most}
use Rattle.command_words.specs.declared.command.Command.{Command}
use Rattle.decision_core.specs.declared.describing.Next.{Next}
use Rattle.decision_core.specs.declared.describing.Next.TheVariants as Leads
use Rattle.decision_core.specs.Decided.{decision_of}
use Rattle.decision_core.specs.Decisions.{TextDecides, long_description, refused, accepted}
use Rattle.decision_core.specs.Judged.{IsAccepted}
use Rattle.decision_core.specs.Leading.{PlanSays, LeadsTo, TextLeadsTo}
use Rattle.decision_core.proofs.DecisionLemmas.{map-ok}
use Rattle.decision_core.proofs.describing.lead_text.Goals as goal

-- what a plan leads to is what its description leads to
plan-leads : (command : Command) (bytes : List ℕ) (plan : Plan) (next : Next) → length bytes ≤ text_most → IsAccepted bytes plan → IsNumbered plan → LeadsTo command plan next → TextLeadsTo command bytes next
plan-leads command bytes plan (Leads.Done decided) short is numbered h = accepted plan (decision_of decided) short is h
plan-leads command bytes plan (Leads.Trace plan' asked) short is numbered h = rw h.0 (record { short = short; accepted = is; numbered = numbered; asks = h.1 })

pub lead_plan-requires-clause-accepted : goal.lead_plan-requires-clause-accepted
lead_plan-requires-clause-accepted c = (c.args.text.now, c.in-Ok.ensures.accepted)

pub returns-then-text-gt-TEXT_MOST : goal.returns-then-text-gt-TEXT_MOST
returns-then-text-gt-TEXT_MOST c =
    subst (λ x. TextDecides (PlanSays c.args.command) c.args.text.now x) (sym c.in_ok-say_too_long.ensures) (long_description c.if-text-gt-TEXT_MOST.true)

pub returns-in-Ok : goal.returns-in-Ok
returns-in-Ok c =
    map-ok c.lead_plan.result _ _ (λ next h. plan-leads c.args.command c.args.text.now c.in-Ok.plan next c.if-text-gt-TEXT_MOST.false c.in-Ok.ensures.accepted c.in-Ok.ensures.numbered h) c.lead_plan.ensures

pub returns-in_ok-say_unaccepted-in-Err : goal.returns-in_ok-say_unaccepted-in-Err
returns-in_ok-say_unaccepted-in-Err c =
    let h = c.in_ok-say_unaccepted-in-Err.ensures in
    subst (λ x. TextDecides (PlanSays c.args.command) c.args.text.now x) (sym h.2) (refused h.0 c.if-text-gt-TEXT_MOST.false (c.in-Err.ensures.refused h.0 (ap Err h.1)))

use Rattle.std.proofs.Common.{refl, sym, subst}
use Rattle.command_words.specs.declared.command.Command.{Command}
use Rattle.decision_core.specs.declared.showing.Showing.TheVariants as Show
use Rattle.decision_core.specs.declared.showing.Asked.TheVariants as Ask
use Rattle.decision_core.specs.Leading.{AsksOfTrace, PlanSays, says_accepted, says_layout}
use Rattle.decision_core.proofs.describing.lead_plan.Goals as goal

pub returns-in_ok-said-in-Check : goal.returns-in_ok-said-in-Check
returns-in_ok-said-in-Check c =
    subst (λ x. PlanSays c.args.command c.args.plan x) (sym c.in_ok-said-in-Check.ensures) (says_accepted c.in-Check.is)

pub returns-in_ok-said-in-Layout : goal.returns-in_ok-said-in-Layout
returns-in_ok-said-in-Layout c =
    subst (λ x. PlanSays c.args.command c.args.plan x) (sym c.in_ok-said-in-Layout.ensures) (says_layout c.in-Layout.is)

pub returns-in-Play : goal.returns-in-Play
returns-in-Play c =
    (refl, subst (λ (x : Command). AsksOfTrace x (Ask.Play (Show.Report c.in-Play.options))) (sym c.in-Play.is) refl)

pub returns-in-Run : goal.returns-in-Run
returns-in-Run c = (refl, subst (λ (x : Command). AsksOfTrace x (Ask.Run c.in-Run.steps)) (sym c.in-Run.is) refl)

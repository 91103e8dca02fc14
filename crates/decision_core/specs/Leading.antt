-- What a description leads to before a trace is read.
use Rattle.std.specs.Prelude.{◌≡◌, ◌≤◌, ℕ, List, length}
use Rattle.sdf_plan.specs.declared.plan.Plan.{Plan}
use Rattle.sdf_plan.specs.Elements.{IsNumbered}
use Rattle.sdf_model.specs.Counts.{text_most}
use Rattle.region_layout.specs.Layouts.{layout_of}
use Rattle.report_text.specs.Answers.{accepted_text}
use Rattle.report_text.specs.Layouts.{layout_text}
use Rattle.command_words.specs.declared.command.Command.{Command}
use Rattle.command_words.specs.declared.command.Command.TheVariants as Do
use Rattle.decision_core.specs.declared.showing.Asked.{Asked}
use Rattle.decision_core.specs.declared.showing.Asked.TheVariants as Ask
use Rattle.decision_core.specs.declared.showing.Showing.TheVariants as Show
use Rattle.decision_core.specs.declared.status.Status.TheVariants as Ended
use Rattle.decision_core.specs.declared.describing.Next.{Next}
use Rattle.decision_core.specs.declared.describing.Next.TheVariants as Leads
use Rattle.decision_core.specs.Decided.{decision_of}
use Rattle.decision_core.specs.Decisions.{Decision, Say, TextDecides}
use Rattle.decision_core.specs.Judged.{IsAccepted}

-- a command asks for this of the trace that it names
abbrev pub AsksOfTrace : Command → Asked → Type 0
AsksOfTrace Do.Check asked = ⊥
AsksOfTrace Do.Layout asked = ⊥
AsksOfTrace (Do.Play options) asked = asked ≡ Ask.Play (Show.Report options)
AsksOfTrace (Do.Run steps) asked = asked ≡ Ask.Run steps
AsksOfTrace (Do.Gen n) asked = ⊥
AsksOfTrace (Do.I2c schedule) asked = ⊥
AsksOfTrace (Do.Switch schedule) asked = ⊥

-- what a command says of the plan of a description that is accepted, before any trace is read
pub data PlanSays (command : Command) (plan : Plan) : Decision → Type 0 where
  says_accepted : command ≡ Do.Check
      → PlanSays command plan (Say Ended.Ok (accepted_text plan))
  says_layout : command ≡ Do.Layout
      → PlanSays command plan (Say Ended.Ok (layout_text plan (layout_of plan)))

-- a command leads to this for the plan of a description that is accepted
abbrev pub LeadsTo : Command → Plan → Next → Type 0
LeadsTo command plan (Leads.Done decided) = PlanSays command plan (decision_of decided)
LeadsTo command plan (Leads.Trace plan' asked) =
    (plan' ≡ plan) × AsksOfTrace command asked

-- the bytes of a description are accepted, and the command asks for this of a trace
pub record LeavesTrace (command : Command) (bytes : List ℕ) (plan : Plan) (asked : Asked)
    : Type 0 where
  pub short : length bytes ≤ text_most
  pub accepted : IsAccepted bytes plan
  pub numbered : IsNumbered plan
  pub asks : AsksOfTrace command asked

-- a command leads to this, by the bytes of its description
abbrev pub TextLeadsTo : Command → List ℕ → Next → Type 0
TextLeadsTo command bytes (Leads.Done decided) =
    TextDecides (PlanSays command) bytes (decision_of decided)
TextLeadsTo command bytes (Leads.Trace plan asked) = LeavesTrace command bytes plan asked

-- What is shown of a play or a run.
use Rattle.std.specs.Prelude.{ℕ, Option, Bool, true, false, List, ◌++◌, unwrap_or}
use Rattle.sdf_plan.specs.declared.plan.Plan.{Plan}
use Rattle.trace_text.specs.declared.trace.Trace.{Trace}
use Rattle.wire_core.specs.declared.names.Entry.{Entry}
use Rattle.region_layout.specs.declared.layout.Layout.{Layout}
use Rattle.expect_core.specs.declared.report.Report.{Report}
use Rattle.expect_core.specs.Budgets.{budget_of}
use Rattle.report_text.specs.Reports.{report_text, summary_text}
use Rattle.report_text.specs.Journals.{journal_text}
use Rattle.command_words.specs.declared.command.Schedule.{Schedule}
use Rattle.i2c_text.specs.declared.bus.Bus.{Bus}
use Rattle.i2c_play.specs.Bounds.{bus_bound}
use Rattle.line_text.specs.declared.ports_text.ports.Ports.{Ports}
use Rattle.switch_play.specs.Bounds.{ports_bound}
use Rattle.decision_core.specs.declared.showing.Showing.{Showing}
use Rattle.decision_core.specs.declared.showing.Showing.TheVariants as Show
use Rattle.decision_core.specs.declared.status.Status.{Status}
use Rattle.decision_core.specs.declared.status.Status.TheVariants as Ended

-- the seed of the picks
abbrev pub seed_of : Showing → ℕ
seed_of (Show.Report options) = options.seed
seed_of Show.Summary = 0

-- a limit of steps, or as many as are enough
abbrev pub limit_or_budget : Plan → Trace → Option ℕ → ℕ
limit_or_budget plan trace steps = unwrap_or steps (budget_of plan trace)

-- how many steps a play may make: those that the words say, or those that are enough
abbrev pub limit_of : Plan → Trace → Showing → ℕ
limit_of plan trace (Show.Report options) = limit_or_budget plan trace options.steps
limit_of plan trace Show.Summary = budget_of plan trace

-- how many steps the play of a bus may make: those that the words say, or those that are enough
abbrev pub bus_limit : Bus → Schedule → ℕ
bus_limit bus schedule = unwrap_or schedule.steps (bus_bound bus)

-- how many steps the play of a switch may make: those that the words say, or those that are enough
abbrev pub ports_limit : Ports → Schedule → ℕ
ports_limit ports schedule = unwrap_or schedule.steps (ports_bound ports)

-- how a play or a run ended: quiet, or with so many steps
abbrev pub ending_of : Bool → ℕ → Status
ending_of true steps = Ended.Ok
ending_of false steps = Ended.Spent steps

-- a report, and the journal behind it where it is asked for
abbrev pub told_text : Layout → Bool → Report → List Entry → List ℕ
told_text layout false report journal = report_text report
told_text layout true report journal = report_text report ++ journal_text layout journal

-- the text of a play: its report, with the journal where it is asked for, or its summary
abbrev pub shown_text : Layout → Showing → Report → List Entry → List ℕ
shown_text layout (Show.Report options) report journal =
    told_text layout options.journal report journal
shown_text layout Show.Summary report journal = summary_text report

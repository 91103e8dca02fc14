-- What `serve` answers, by what the words and the texts decide.
use Rattle.std.specs.Prelude.{◌≡◌, ◌≤◌, ℕ, false, Option, List, length}
use Rattle.cargo_core.specs.Lists.{IsPrefix}
use Rattle.cargo_core.specs.declared.memory.Memory.{Memory}
use Rattle.sdf_plan.specs.declared.plan.Plan.{Plan}
use Rattle.trace_text.specs.declared.trace.Trace.{Trace}
use Rattle.region_layout.specs.Layouts.{layout_of}
use Rattle.expect_core.specs.Budgets.{budget_of}
use Rattle.cast_core.specs.Hostile.{HasNoRogue}
use Rattle.system_core.specs.declared.system.System.{System}
use Rattle.system_core.specs.PlanPlays.{IsPlayed}
use Rattle.system_core.specs.Reports.{report_of}
use Rattle.sddf_top.specs.SystemRun.Ran.{IsRan}
use Rattle.report_text.specs.Reports.{report_text}
use Rattle.command_words.specs.declared.command.Schedule.{Schedule}
use Rattle.i2c_text.specs.declared.bus.Bus.{Bus}
use Rattle.i2c_text.specs.declared.report.BusReport.{BusReport}
use Rattle.i2c_play.specs.Bounds.{bus_bound}
use Rattle.i2c_play.specs.Playing.{BusPlayed}
use Rattle.i2c_play.specs.Texts.{bus_text}
use Rattle.line_text.specs.declared.ports_text.ports.Ports.{Ports}
use Rattle.line_text.specs.declared.ports_text.report.PortReport.{PortReport}
use Rattle.switch_play.specs.Bounds.{ports_bound}
use Rattle.switch_play.specs.Playing.{PortsPlayed}
use Rattle.switch_play.specs.Texts.{ports_text}
use Rattle.decision_core.specs.declared.showing.Showing.{Showing}
use Rattle.decision_core.specs.declared.status.Status.{Status}
use Rattle.decision_core.specs.declared.status.Status.TheVariants as Ended
use Rattle.sddf_top.specs.declared.played.Played.{Played}
use Rattle.sddf_top.specs.declared.played.Played.TheVariants as Was
use Rattle.decision_core.specs.Decisions.{Decision, Say, Play, Run, PlayBus, PlayPorts, Decides}
use Rattle.sddf_top.specs.Shown.{seed_of, limit_of, limit_or_budget, ending_of, shown_text}
use Rattle.sddf_top.specs.Shown.{bus_limit, ports_limit}
use Rattle.decision_core.specs.ShelfCore.Outside.{appended}

-- a trace was played on a plan: the system that was built and played, the status by whether it is
-- quiet, and the text of its report, with its journal where the options ask for it, or its summary.
-- Where it isn't quiet all steps were made.
pub record Shows (plan : Plan) (trace : Trace) (showing : Showing) (status : Status) (text : List ℕ)
    (played : Played) : Type 0 where
  pub system : System
  pub played_is : played ≡ Was.Classes system
  pub plays : IsPlayed plan trace (seed_of showing) (limit_of plan trace showing) system
  pub spent : (report_of system).quiet ≡ false → length system.journal ≡ limit_of plan trace showing
  pub status_is : status ≡ ending_of (report_of system).quiet (report_of system).steps
  -- the budget is enough where no client is hostile
  pub bounded : HasNoRogue plan → budget_of plan trace ≤ limit_of plan trace showing
      → status ≡ Ended.Ok
  pub text_is : text ≡ shown_text (layout_of plan) showing (report_of system) system.journal

-- a trace was run on a plan, with a thread for each actor: the system that took over what the
-- threads left and was played on, the status by whether it is quiet, and the text of its report.
-- Where it isn't quiet all steps were made.
pub record ShowsRun (plan : Plan) (trace : Trace) (steps : Option ℕ) (status : Status)
    (text : List ℕ) (played : Played) : Type 0 where
  pub system : System
  pub played_is : played ≡ Was.Classes system
  pub ran : IsRan plan trace (limit_or_budget plan trace steps) system
  pub spent : (report_of system).quiet ≡ false
      → length system.journal ≡ limit_or_budget plan trace steps
  pub status_is : status ≡ ending_of (report_of system).quiet (report_of system).steps
  -- the budget is enough where no client is hostile
  pub bounded : HasNoRogue plan → budget_of plan trace ≤ limit_or_budget plan trace steps
      → status ≡ Ended.Ok
  pub text_is : text ≡ report_text (report_of system)

-- a bus was played: what is reported of its play, the status by whether it is quiet, and the text of
-- the report
pub record ShowsBus (bus : Bus) (schedule : Schedule) (status : Status) (text : List ℕ)
    (played : Played) : Type 0 where
  pub report : BusReport
  pub played_is : played ≡ Was.Bus report
  pub plays : BusPlayed bus schedule.seed (bus_limit bus schedule) report
  pub status_is : status ≡ ending_of report.quiet report.steps
  pub bounded : bus_bound bus ≤ bus_limit bus schedule → status ≡ Ended.Ok
  pub text_is : text ≡ bus_text report

-- a switch was played: what is reported of its play, the status by whether it is quiet, and the text
-- of the report
pub record ShowsPorts (ports : Ports) (schedule : Schedule) (status : Status) (text : List ℕ)
    (played : Played) : Type 0 where
  pub report : PortReport
  pub played_is : played ≡ Was.Ports report
  pub plays : PortsPlayed ports schedule.seed (ports_limit ports schedule) report
  pub status_is : status ≡ ending_of report.quiet report.steps
  pub bounded : ports_bound ports ≤ ports_limit ports schedule → status ≡ Ended.Ok
  pub text_is : text ≡ ports_text report

-- a decision that leads to `Ok`: it says so, or a play or a run of a plan without hostile clients
-- may make as many steps as its budget, or as are enough for a bus or a switch
abbrev pub IsEnough : Decision → Type 0
IsEnough (Say status text) = status ≡ Ended.Ok
IsEnough (Play plan trace showing) =
    HasNoRogue plan × budget_of plan trace ≤ limit_of plan trace showing
IsEnough (Run plan trace steps) =
    HasNoRogue plan × budget_of plan trace ≤ limit_or_budget plan trace steps
IsEnough (PlayBus bus schedule) = bus_bound bus ≤ bus_limit bus schedule
IsEnough (PlayPorts ports schedule) = ports_bound ports ≤ ports_limit ports schedule

-- the answer that a decision leads to: its status, the whole text that is written, and the system
-- that was played, or what a bus or a switch reports
abbrev pub Comes : Decision → Status → List ℕ → Played → Type 0
Comes (Say status' text') status text played =
    (status ≡ status') × (text ≡ text') × (played ≡ Was.Nothing)
Comes (Play plan trace showing) status text played = Shows plan trace showing status text played
Comes (Run plan trace steps) status text played = ShowsRun plan trace steps status text played
Comes (PlayBus bus schedule) status text played = ShowsBus bus schedule status text played
Comes (PlayPorts ports schedule) status text played = ShowsPorts ports schedule status text played

-- an answer that comes by such a decision
abbrev pub ComesBy : (Decision → Type 0) → Status → List ℕ → Played → Type 0
ComesBy decides status text played =
    (decision : Decision) × decides decision × Comes decision status text played

-- the answer to words, by what they and the texts under their names decide
abbrev pub Answers : (List ℕ → List ℕ → Type 0) → List (List ℕ) → Status → List ℕ → Played → Type 0
Answers reads words status text played = ComesBy (Decides reads words) status text played

-- an answer that may come in place of another
pub data IsFault : Status → Type 0 where
  no_reading : IsFault Ended.ReadFault
  no_writing : IsFault Ended.WriteFault
  no_memory : (memory : Memory) → IsFault (Ended.Memory memory)

-- the text of the answer was written whole
abbrev pub WritesWhole : (List ℕ → List ℕ → Type 0) → List (List ℕ) → Option (List ℕ)
    → Option (List ℕ) → Status → Played → Type 0
WritesWhole reads words old new status played =
    (text : List ℕ) × Answers reads words status text played × (new ≡ appended old text)

-- a beginning of the text of the answer was written that a failure of the sink came in place of
abbrev pub WritesBegun : (List ℕ → List ℕ → Type 0) → List (List ℕ) → Option (List ℕ)
    → Option (List ℕ) → Played → Type 0
WritesBegun reads words old new played =
    (status : Status) × (text : List ℕ) × (begun : List ℕ) × Answers reads words status text played
    × IsPrefix begun text × (new ≡ appended old begun)

-- what a call answers, and what it wrote: nothing where a text couldn't be read or memory was
-- refused
abbrev pub Serves : (List ℕ → List ℕ → Type 0) → List (List ℕ) → Option (List ℕ) → Option (List ℕ)
    → Status → Played → Type 0
Serves reads words old new Ended.ReadFault played = (played ≡ Was.Nothing) × (new ≡ old)
Serves reads words old new (Ended.Memory memory) played = (played ≡ Was.Nothing) × (new ≡ old)
Serves reads words old new Ended.WriteFault played = WritesBegun reads words old new played
Serves reads words old new Ended.Ok played = WritesWhole reads words old new Ended.Ok played
Serves reads words old new (Ended.Usage k) played =
    WritesWhole reads words old new (Ended.Usage k) played
Serves reads words old new (Ended.Refused n) played =
    WritesWhole reads words old new (Ended.Refused n) played
Serves reads words old new (Ended.BadTrace l) played =
    WritesWhole reads words old new (Ended.BadTrace l) played
Serves reads words old new (Ended.Spent s) played =
    WritesWhole reads words old new (Ended.Spent s) played
Serves reads words old new Ended.TooLong played =
    WritesWhole reads words old new Ended.TooLong played

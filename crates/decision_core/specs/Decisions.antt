-- What the words and the texts under their names decide, one constructor a cause.
use Rattle.std.specs.Prelude.{◌≡◌, ◌⊎◌, ◌<◌, ◌≤◌, ℕ, Option, List, length}
use Rattle.sdf_plan.specs.declared.place.Refusal.{Refusal}
use Rattle.sdf_plan.specs.declared.plan.Plan.{Plan}
use Rattle.trace_text.specs.declared.trace.Trace.{Trace}
use Rattle.trace_text.specs.Traces.{HasNoBadLine, IsLeastBadLine, trace_of}
use Rattle.region_layout.specs.Layouts.{layout_of}
use Rattle.report_text.specs.Answers.{usage_text, refused_text, bad_trace_text, long_text}
use Rattle.report_text.specs.Answers.{accepted_text}
use Rattle.report_text.specs.Layouts.{layout_text}
use Rattle.i2c_text.specs.declared.bus.Bus.{Bus}
use Rattle.i2c_text.specs.Buses.{bus_of, HasNoBadLine as HasNoBadBusLine}
use Rattle.i2c_text.specs.Buses.{IsLeastBadLine as IsLeastBadBusLine}
use Rattle.line_text.specs.declared.ports_text.ports.Ports.{Ports}
use Rattle.line_text.specs.PortsText.Given.{ports_of, HasNoBadLine as HasNoBadPortLine}
use Rattle.line_text.specs.PortsText.Given.{IsLeastBadLine as IsLeastBadPortLine}
use Rattle.command_words.specs.declared.command.Options.{Options}
use Rattle.command_words.specs.declared.command.Schedule.{Schedule}
use Rattle.command_words.specs.Words.{IsCheck, IsLayout, IsPlay, IsRun, IsGen, IsBadWord}
use Rattle.command_words.specs.Words.{IsI2c, IsSwitch}
use Rattle.workload.specs.declared.description.TheConstants.{FULL_EXAMPLE}
use Rattle.workload.specs.Generated.{generated_text}
use Rattle.decision_core.specs.declared.showing.Showing.{Showing}
use Rattle.decision_core.specs.declared.showing.Showing.TheVariants as Show
use Rattle.decision_core.specs.declared.showing.Asked.{Asked}
use Rattle.decision_core.specs.declared.showing.Asked.TheVariants as Ask
use Rattle.decision_core.specs.declared.showing.Alone.{Alone}
use Rattle.decision_core.specs.declared.showing.Alone.TheVariants as Only
use Rattle.decision_core.specs.declared.status.Status.{Status}
use Rattle.decision_core.specs.declared.status.Status.TheVariants as Ended
use Rattle.sdf_model.specs.Counts.{text_most}
use Rattle.decision_core.specs.Judged.{IsAccepted, IsRefusedText}

-- what is decided before anything is played: the status and the text of the answer, that a trace is
-- played on a plan, or that it is run with a thread for each actor, with a limit of steps or none,
-- that a bus is played, or the ports of a switch
pub data Decision : Type 0 where
  Say : Status → List ℕ → Decision
  Play : Plan → Trace → Showing → Decision
  Run : Plan → Trace → Option ℕ → Decision
  PlayBus : Bus → Schedule → Decision
  PlayPorts : Ports → Schedule → Decision

-- what is asked of a trace on a plan
abbrev pub asked_on : Plan → Trace → Asked → Decision
asked_on plan trace (Ask.Play showing) = Play plan trace showing
asked_on plan trace (Ask.Run steps) = Run plan trace steps

-- a description is refused
abbrev pub refuses : Refusal → Decision
refuses refusal = Say (Ended.Refused refusal.rule) (refused_text refusal)

-- a text is too long
abbrev pub too_long : Decision
too_long = Say Ended.TooLong long_text

-- what the bytes of a trace decide for a plan: it is too long, a line of it is bad, or what is
-- asked of it is done
pub data TraceDecides (plan : Plan) (asked : Asked) (bytes : List ℕ) : Decision → Type 0 where
  long_trace : text_most < length bytes → TraceDecides plan asked bytes too_long
  bad_trace : (line : ℕ) → length bytes ≤ text_most → IsLeastBadLine plan bytes line
      → TraceDecides plan asked bytes (Say (Ended.BadTrace line) (bad_trace_text line))
  good_trace : length bytes ≤ text_most → HasNoBadLine plan bytes
      → TraceDecides plan asked bytes (asked_on plan (trace_of plan bytes) asked)

-- the words ask for this, with these names of a description and a trace
pub data AsksFor (words : List (List ℕ)) (desc trace : List ℕ) : Asked → Type 0 where
  to_play : (options : Options) → IsPlay words desc trace options
      → AsksFor words desc trace (Ask.Play (Show.Report options))
  to_run : (steps : Option ℕ) → IsRun words desc trace steps
      → AsksFor words desc trace (Ask.Run steps)

-- what the words decide for the plan of a description that is accepted, where reads tells the bytes
-- that were read of a text: a trace is asked for what the words say
pub data PlanDecides (reads : List ℕ → List ℕ → Type 0) (words : List (List ℕ)) (plan : Plan)
    : Decision → Type 0 where
  checked : (desc : List ℕ) → IsCheck words desc
      → PlanDecides reads words plan (Say Ended.Ok (accepted_text plan))
  laid_out : (desc : List ℕ) → IsLayout words desc
      → PlanDecides reads words plan (Say Ended.Ok (layout_text plan (layout_of plan)))
  traced : (desc trace bytes : List ℕ) (asked : Asked) (decision : Decision)
      → AsksFor words desc trace asked → reads trace bytes
      → TraceDecides plan asked bytes decision
      → PlanDecides reads words plan decision

-- what the bytes of a description decide: it is too long, it is refused, or it is accepted, and
-- then its plan decides
pub data TextDecides (decides : Plan → Decision → Type 0) (bytes : List ℕ)
    : Decision → Type 0 where
  long_description : text_most < length bytes → TextDecides decides bytes too_long
  refused : (refusal : Refusal) → length bytes ≤ text_most → IsRefusedText bytes refusal
      → TextDecides decides bytes (refuses refusal)
  accepted : (plan : Plan) (decision : Decision) → length bytes ≤ text_most → IsAccepted bytes plan
      → decides plan decision → TextDecides decides bytes decision

-- what a generated trace decides for a plan: it is read as any other, and played with seed 0; the
-- summary is shown
abbrev pub GeneratedDecides : ℕ → Plan → Decision → Type 0
GeneratedDecides n plan decision =
    TraceDecides plan (Ask.Play Show.Summary) (generated_text n) decision

-- the words are a command on this description
abbrev pub NamesDescription : List (List ℕ) → List ℕ → Type 0
NamesDescription words desc =
    IsCheck words desc
    ⊎ (IsLayout words desc
    ⊎ ((trace : List ℕ) × (asked : Asked) × AsksFor words desc trace asked))

-- what the bytes of a text that is played alone decide, by which texts are good and which line is
-- the first bad one: it is too long, a line of it is bad, or it is played
pub data OneTextDecides (Good : List ℕ → Type 0) (IsLeastBad : List ℕ → ℕ → Type 0)
    (play : List ℕ → Decision) (bytes : List ℕ) : Decision → Type 0 where
  long_text_alone : text_most < length bytes → OneTextDecides Good IsLeastBad play bytes too_long
  bad_text : (line : ℕ) → length bytes ≤ text_most → IsLeastBad bytes line
      → OneTextDecides Good IsLeastBad play bytes
      (Say (Ended.BadTrace line) (bad_trace_text line))
  good_text : length bytes ≤ text_most → Good bytes
      → OneTextDecides Good IsLeastBad play bytes (play bytes)

-- the bus of a text is played
abbrev pub bus_played : Schedule → List ℕ → Decision
bus_played schedule bytes = PlayBus (bus_of bytes) schedule

-- the ports of a text are played
abbrev pub ports_played : Schedule → List ℕ → Decision
ports_played schedule bytes = PlayPorts (ports_of bytes) schedule

-- what the bytes of the one text decide, by what is asked of it
abbrev pub AloneDecides : Alone → List ℕ → Decision → Type 0
AloneDecides (Only.Bus schedule) bytes decision =
    OneTextDecides HasNoBadBusLine IsLeastBadBusLine (bus_played schedule) bytes decision
AloneDecides (Only.Switch schedule) bytes decision =
    OneTextDecides HasNoBadPortLine IsLeastBadPortLine (ports_played schedule) bytes decision

-- the words ask for this, with the name of one text
abbrev pub AsksAlone : List (List ℕ) → List ℕ → Alone → Type 0
AsksAlone words trace (Only.Bus schedule) = IsI2c words trace schedule
AsksAlone words trace (Only.Switch schedule) = IsSwitch words trace schedule

-- what the words and the texts under their names decide
pub data Decides (reads : List ℕ → List ℕ → Type 0) (words : List (List ℕ))
    : Decision → Type 0 where
  no_command : (k : ℕ) → IsBadWord words k
      → Decides reads words (Say (Ended.Usage k) (usage_text k))
  described : (desc bytes : List ℕ) (decision : Decision) → NamesDescription words desc
      → reads desc bytes → TextDecides (PlanDecides reads words) bytes decision
      → Decides reads words decision
  generated : (n : ℕ) (decision : Decision) → IsGen words n
      → TextDecides (GeneratedDecides n) FULL_EXAMPLE.now decision → Decides reads words decision
  alone : (trace bytes : List ℕ) (asked : Alone) (decision : Decision)
      → AsksAlone words trace asked → reads trace bytes → AloneDecides asked bytes decision
      → Decides reads words decision

-- a play or a run gets quiet or spends its steps
abbrev pub IsEnding : Status → Type 0
IsEnding status = (status ≡ Ended.Ok) ⊎ ((steps : ℕ) × (status ≡ Ended.Spent steps))

-- the status that a decision leads to
abbrev pub IsStatusOf : Decision → Status → Type 0
IsStatusOf (Say status' text') status = status ≡ status'
IsStatusOf (Play plan trace showing) status = IsEnding status
IsStatusOf (Run plan trace limit) status = IsEnding status
IsStatusOf (PlayBus bus schedule) status = IsEnding status
IsStatusOf (PlayPorts ports schedule) status = IsEnding status

-- What was decided, as it is kept.
use Rattle.std.specs.Prelude.{ℕ, Option, List, string_bytes}
use Rattle.sdf_plan.specs.Elements.{IsNumbered}
use Rattle.trace_text.specs.Traces.{IsReadFor}
use Rattle.i2c_text.specs.Buses.{IsReadBus}
use Rattle.line_text.specs.PortsText.Given.{ArePorts}
use Rattle.decision_core.specs.declared.deciding.Decided.{Decided}
use Rattle.decision_core.specs.declared.deciding.Decided.TheVariants as Is
use Rattle.decision_core.specs.declared.showing.Asked.TheVariants as Ask
use Rattle.decision_core.specs.declared.status.Status.{Status}
use Rattle.decision_core.specs.Judged.{IsAcceptedPlan}
use Rattle.decision_core.specs.Decisions.{Decision, Say, PlayBus, PlayPorts, asked_on}
use Rattle.decision_core.specs.Decisions.{IsStatusOf}

-- the decision that is kept
abbrev pub decision_of : Decided → Decision
decision_of (Is.Say status text) = Say status (string_bytes text)
decision_of (Is.Go plan trace asked) = asked_on plan trace asked
decision_of (Is.Bus bus schedule) = PlayBus bus schedule
decision_of (Is.Ports ports schedule) = PlayPorts ports schedule

-- what is played or run is accepted, and read for its plan; a bus and the ports of a switch are
-- what was read
abbrev pub IsSound : Decided → Type 0
IsSound (Is.Say status text) = Unit {0}
IsSound (Is.Go plan trace asked) = IsAcceptedPlan plan × IsReadFor plan trace
IsSound (Is.Bus bus schedule) = IsReadBus bus
IsSound (Is.Ports ports schedule) = ArePorts ports

-- what is played or run can be played: the plan is accepted, its elements are numbered, and the
-- trace is read for it; a bus and the ports of a switch are what was read
abbrev pub IsPlayable : Decided → Type 0
IsPlayable (Is.Say status text) = Unit {0}
IsPlayable (Is.Go plan trace asked) = IsAcceptedPlan plan × IsNumbered plan × IsReadFor plan trace
IsPlayable (Is.Bus bus schedule) = IsReadBus bus
IsPlayable (Is.Ports ports schedule) = ArePorts ports

-- a run is asked for
abbrev pub AsksToRun : Decided → Type 0
AsksToRun (Is.Say status text) = ⊥
AsksToRun (Is.Go plan trace (Ask.Play showing)) = ⊥
AsksToRun (Is.Go plan trace (Ask.Run steps)) = Unit {0}
AsksToRun (Is.Bus bus schedule) = ⊥
AsksToRun (Is.Ports ports schedule) = ⊥

-- this is left on a shelf, and was opened, for each status that the decision may lead to
abbrev pub OfEach : (Option (List ℕ) → Option (List ℕ) → Option (List (List ℕ))
    → Option (List (List ℕ)) → Status → Type 0) → Decided → Option (List ℕ) → Option (List ℕ)
    → Option (List (List ℕ)) → Option (List (List ℕ)) → Type 0
OfEach leaves decided old new before after =
    (status : Status) → IsStatusOf (decision_of decided) status → leaves old new before after status

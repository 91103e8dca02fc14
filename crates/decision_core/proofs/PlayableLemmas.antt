-- What is decided can be played: nothing is where there is only something to say.
use Rattle.std.proofs.Common.{◌≡◌, List, ℕ, refl}
use Rattle.i2c_text.specs.Buses.{IsReadBus}
use Rattle.line_text.specs.PortsText.Given.{ArePorts}
use Rattle.decision_core.specs.declared.deciding.Decided.{Decided}
use Rattle.decision_core.specs.declared.deciding.Decided.TheVariants as Is
use Rattle.decision_core.specs.declared.showing.Asked.TheVariants as Ask
use Rattle.decision_core.specs.declared.showing.Alone.{Alone}
use Rattle.decision_core.specs.declared.showing.Alone.TheVariants as Only
use Rattle.decision_core.specs.declared.status.Status.{Status}
use Rattle.decision_core.specs.Decided.{decision_of, IsPlayable}
use Rattle.decision_core.specs.Decisions.{Decision, Say, Play, Run, PlayBus, PlayPorts, AloneDecides, long_text_alone, bad_text, good_text, TextDecides, long_description, refused, accepted}
use Rattle.decision_core.specs.Leading.{PlanSays, says_accepted, says_layout}
use Rattle.command_words.specs.declared.command.Command.{Command}
use Rattle.sdf_plan.specs.declared.plan.Plan.{Plan}

pub said-playable : (d : Decided) (status : Status) (text : List ℕ) → decision_of d ≡ Say status text → IsPlayable d
said-playable (Is.Say s t) status text e = tt
said-playable (Is.Go plan trace (Ask.Play showing)) status text e = absurd (cc e)
said-playable (Is.Go plan trace (Ask.Run steps)) status text e = absurd (cc e)
said-playable (Is.Bus bus schedule) status text e = absurd (cc e)
said-playable (Is.Ports ports schedule) status text e = absurd (cc e)

-- what one text alone decides can be played
abbrev IsOfText : Decision → Type 0
IsOfText (Say status text) = Unit {0}
IsOfText (Play plan trace showing) = ⊥
IsOfText (Run plan trace steps) = ⊥
IsOfText (PlayBus bus schedule) = IsReadBus bus
IsOfText (PlayPorts ports schedule) = ArePorts ports

of-text : (a : Alone) (bytes : List ℕ) (d : Decision) → AloneDecides a bytes d → IsOfText d
of-text (Only.Bus schedule) bytes _ (long_text_alone l) = tt
of-text (Only.Bus schedule) bytes _ (bad_text k l b) = tt
of-text (Only.Bus schedule) bytes _ (good_text l g) = record { text = bytes; good = g; given = refl }
of-text (Only.Switch schedule) bytes _ (long_text_alone l) = tt
of-text (Only.Switch schedule) bytes _ (bad_text k l b) = tt
of-text (Only.Switch schedule) bytes _ (good_text l g) = record { text = bytes; good = g; given = refl }

pub kept-playable : (d : Decided) → IsOfText (decision_of d) → IsPlayable d
kept-playable (Is.Say s t) h = tt
kept-playable (Is.Go plan trace (Ask.Play showing)) h = absurd h
kept-playable (Is.Go plan trace (Ask.Run steps)) h = absurd h
kept-playable (Is.Bus bus schedule) h = h
kept-playable (Is.Ports ports schedule) h = h

pub alone-playable : (a : Alone) (bytes : List ℕ) (d : Decided) → AloneDecides a bytes (decision_of d) → IsPlayable d
alone-playable a bytes d h = kept-playable d (of-text a bytes (decision_of d) h)

-- what a description decides without a trace is only said
text-said : (command : Command) (bytes : List ℕ) (d : Decision) → TextDecides (PlanSays command) bytes d → IsOfText d
text-said command bytes _ (long_description l) = tt
text-said command bytes _ (refused r l i) = tt
text-said command bytes _ (accepted plan d l i says) = plan-says plan d says
  where
    plan-says : (plan : Plan) (d : Decision) → PlanSays command plan d → IsOfText d
    plan-says plan _ (says_accepted e) = tt
    plan-says plan _ (says_layout e) = tt

pub text-playable : (command : Command) (bytes : List ℕ) (d : Decided) → TextDecides (PlanSays command) bytes (decision_of d) → IsPlayable d
text-playable command bytes d h = kept-playable d (text-said command bytes (decision_of d) h)
